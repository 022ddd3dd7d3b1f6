-- `pair_sums::round_samples` meets its contract. The loop's invariant: the words below t are made, and the sums from t on stand. Assumes nothing.
use Rattle.std.proofs.Common.{◌≡◌, ℕ, ◌≤◌, ◌<◌, pos, ◌*ℤ◌, length}
use Rattle.arith.specs.Lists.{at}
use Rattle.arith.specs.Floor.{near}
use Rattle.pair_sums.proofs.round_samples.Given as goal

abbrev pub invariant-loop-t : goal.invariant-loop-t
invariant-loop-t l =
    (length l.sums ≡ 64)
    × ((i : ℕ) → i < l.t → at l.sums i ≡ near (pos 256 *ℤ at l.initial.sums i) 16384)
    × ((i : ℕ) → l.t ≤ i → at l.sums i ≡ at l.initial.sums i)
