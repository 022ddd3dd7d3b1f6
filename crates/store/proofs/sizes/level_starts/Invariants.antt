-- `store::sizes::level_starts` meets its contract. The loop's invariant: the first j places are the starts of levels 0..j - 1, and `start` and
-- `length` are those of level j. Assumes nothing.
use Rattle.std.proofs.Common.{◌≡◌, ℕ, ◌<◌, length, get_or}
use Rattle.store.specs.Sizes.{level_length, level_start}
use Rattle.store.proofs.sizes.level_starts.Given as goal

abbrev pub invariant-loop-place : goal.invariant-loop-place
invariant-loop-place l = record {
  place : length l.place-items ≡ 6;
  start : l.start ≡ level_start l.recorded l.top l.place-index;
  length : l.length ≡ level_length l.recorded l.place-index;
  written : (i : ℕ) → i < l.place-index → get_or l.place-items i 0 ≡ level_start l.recorded l.top i;
}
