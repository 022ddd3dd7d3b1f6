-- `pair_sums::parts::split` meets its contract. The loop's invariant: the words of the pairs below i are written. Assumes nothing.
use Rattle.std.proofs.Common.{◌≡◌, ℕ, ◌+◌, ◌*◌, ◌<◌, length}
use Rattle.arith.specs.Lists.{at}
use Rattle.pair_sums.proofs.parts.split.Given as goal

abbrev pub invariant-loop-i : goal.invariant-loop-i
invariant-loop-i g l =
    (length l.out ≡ 208)
    × ((k : ℕ) → k < l.i → goal.F-post g l.part (at l.words (2 * k)) (at l.out k) × goal.F-post g l.part (at l.words (2 * k + 1)) (at l.out (104 + k)))
