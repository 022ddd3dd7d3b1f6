-- `pair_sums::add_pair` meets its contract. The loop's invariant: below j, sum and products together have one pair more. Assumes nothing.
use Rattle.std.proofs.Common.{◌≡◌, ℕ, ◌≤◌, ◌<◌, ◌+ℤ◌, length}
use Rattle.arith.specs.Lists.{at}
use Rattle.pair_sums.specs.Pairs.{pair_product}
use Rattle.pair_sums.proofs.add_pair.Given as goal

abbrev pub invariant-loop-j : goal.invariant-loop-j
invariant-loop-j l =
    (length l.sums ≡ 16)
    × (length l.last ≡ 16)
    × ((i : ℕ) → i < l.j → at l.sums i +ℤ at l.last i ≡ at l.initial.sums i +ℤ at l.initial.last i +ℤ pair_product l.rows l.words l.place l.k i)
    × ((i : ℕ) → l.j ≤ i → i < 16 → at l.sums i +ℤ at l.last i ≡ at l.initial.sums i +ℤ at l.initial.last i)
