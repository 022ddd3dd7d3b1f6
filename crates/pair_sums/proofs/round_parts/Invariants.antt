-- `pair_sums::round_parts` meets its contract. The loop's invariant: the words below t are made, and the sums from t on stand. Assumes nothing.
use Rattle.std.proofs.Common.{◌≡◌, ℕ, ◌≤◌, ◌<◌, pos, ◌+ℤ◌, ◌*ℤ◌, length}
use Rattle.arith.specs.Lists.{at}
use Rattle.arith.specs.Floor.{near}
use Rattle.pair_sums.proofs.round_parts.Given as goal

abbrev pub invariant-loop-t : goal.invariant-loop-t
invariant-loop-t l =
    (length l.upper ≡ 64)
    × ((i : ℕ) → i < l.t → at l.upper i ≡ near (pos 65536 *ℤ at l.initial.upper i +ℤ at l.lower i) 16384)
    × ((i : ℕ) → l.t ≤ i → at l.upper i ≡ at l.initial.upper i)
