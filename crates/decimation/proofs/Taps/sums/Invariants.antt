-- `decimation::Taps::sums`: each sum is that over the taps below the next one. Assumes nothing.
use Rattle.std.proofs.Common.{◌≡◌, ℕ, ◌+◌, ◌-◌, ◌*◌, ◌<◌, length}
use Rattle.arith.specs.Lists.{at}
use Rattle.book.proofs.Around.{around}
use Rattle.decimation.proofs.Lines.{Place}
use Rattle.decimation.proofs.Taps.sums.Given as goal

abbrev pub invariant-loop-i : goal.invariant-loop-i
invariant-loop-i g l = record {
  place : Place l.taps l.self.step (1 + l.self.step * l.i);
  made : (j : ℕ) → j < g.row.LANES → at l.sums j ≡ around l.taps l.line.points.now (l.centre - 2 * j) (1 + l.self.step * l.i);
}
