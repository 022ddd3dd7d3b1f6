-- The loop's invariant: `right` says whether the words passed are right. Assumes nothing.
use Rattle.std.proofs.Common.{◌≡◌, ◌-ℤ◌}
use Rattle.arith.specs.Lists.{at}
use Rattle.arith.specs.Tests.{eq_z, every}
use Rattle.book.proofs.differences.run_right.Given as goal

abbrev pub invariant-loop-i : goal.invariant-loop-i
invariant-loop-i l = l.right ≡ every l.i (λ i. eq_z (at l.differences i) (at l.next i -ℤ at l.from i))
