-- `pair_sums::samples::are_samples` meets its contract. The loop's invariant: the bits hold those of each word passed. Assumes nothing.
use Rattle.std.proofs.Common.{◌≡◌, ℕ, ◌≤◌, ◌<◌, pos, ◌+ℤ◌}
use Rattle.arith.specs.Lists.{at}
use Rattle.std.proofs.Common.{◌%◌, w32, of_z}
use Rattle.pair_sums.proofs.samples.are_samples.Given as goal

abbrev pub invariant-loop-word : goal.invariant-loop-word
invariant-loop-word l =
    ((k : ℕ) → k < l.word-index → of_z w32 (at l.words k +ℤ pos 8388608) ≤ of_z w32 l.bits)
    × ((k : ℕ) → k < l.word-index → of_z w32 l.bits % 256 ≡ 0 → of_z w32 (at l.words k +ℤ pos 8388608) % 256 ≡ 0)
