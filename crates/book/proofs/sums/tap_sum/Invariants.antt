-- The loop's invariant: the sum is that of the taps passed, beside the centre. Assumes nothing.
use Rattle.std.proofs.Common.{◌≡◌, suc, ◌*◌, ◌^◌, ◌≤◌, nat_abs}
use Rattle.arith.specs.Lists.{at}
use Rattle.arith.specs.Sum.{total}
use Rattle.book.proofs.sums.tap_sum.Given as goal

abbrev pub invariant-loop-tap : goal.invariant-loop-tap
invariant-loop-tap l = (l.sum ≡ total l.tap-index (λ k. nat_abs (at l.taps (suc k)))) × (l.sum ≤ l.tap-index * 2 ^ 31)
