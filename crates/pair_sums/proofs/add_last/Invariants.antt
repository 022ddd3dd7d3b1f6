-- `pair_sums::add_last` meets its contract. The loop's invariant: below j, sums and products are written. Assumes nothing.
use Rattle.std.proofs.Common.{◌≡◌, ℕ, ◌<◌, ◌+ℤ◌}
use Rattle.arith.specs.Lists.{at}
use Rattle.pair_sums.proofs.add_last.Given as goal

abbrev pub invariant-loop-j : goal.invariant-loop-j
invariant-loop-j l = (i : ℕ) → i < l.j → at l.out i ≡ at l.sums i +ℤ at l.last i
