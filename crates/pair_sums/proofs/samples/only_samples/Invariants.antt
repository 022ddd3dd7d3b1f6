-- `pair_sums::samples::only_samples` meets its contract. The loop's invariant: if the words that are left are samples, all are. Assumes nothing.
use Rattle.std.proofs.Common.{ℕ, ◌≤◌, ◌^◌, nat_abs}
use Rattle.std.specs.Slice.Iter.{chunks_rest}
use Rattle.arith.specs.Lists.{at}
use Rattle.pair_sums.specs.Pairs.{Samples}
use Rattle.pair_sums.proofs.samples.only_samples.Given as goal

abbrev pub invariant-loop-words : goal.invariant-loop-words
invariant-loop-words l = ((k : ℕ) → nat_abs (at (chunks_rest l.words-iterator) k) ≤ 2 ^ 26) × (Samples (chunks_rest l.words-iterator) → Samples l.level)
