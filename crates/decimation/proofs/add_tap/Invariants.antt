-- `decimation::add_tap`: the tap is added to the first j sums, and the others are as they were. Assumes nothing.
use Rattle.std.proofs.Common.{◌≡◌, ℕ, ◌+◌, ◌-◌, ◌*◌, ◌<◌, ◌≤◌, ◌+ℤ◌, ◌*ℤ◌, length}
use Rattle.arith.specs.Lists.{at}
use Rattle.decimation.proofs.add_tap.Given as goal

abbrev pub invariant-loop-j : goal.invariant-loop-j
invariant-loop-j g l = record {
  length : length l.sums ≡ g.row.LANES;
  added : (i : ℕ) → i < l.j → at l.sums i ≡ at l.initial.sums i +ℤ l.tap *ℤ (at l.line.points.now (l.centre - 2 * i - l.k) +ℤ at l.line.points.now (l.centre - 2 * i + l.k));
  left : (i : ℕ) → l.j ≤ i → at l.sums i ≡ at l.initial.sums i;
}
