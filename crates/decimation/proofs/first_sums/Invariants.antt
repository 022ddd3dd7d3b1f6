-- `decimation::first_sums`: the first j sums are made. Assumes nothing.
use Rattle.std.proofs.Common.{◌≡◌, ℕ, ◌-◌, ◌*◌, ◌<◌, ◌*ℤ◌, length}
use Rattle.arith.specs.Lists.{at}
use Rattle.decimation.proofs.first_sums.Given as goal

abbrev pub invariant-loop-j : goal.invariant-loop-j
invariant-loop-j g l = record {
  length : length l.sums ≡ g.row.LANES;
  made : (i : ℕ) → i < l.j → at l.sums i ≡ l.tap *ℤ at l.line.points.now (l.centre - 2 * i);
}
