-- `store::lengths_right` meets its contract. The loop's invariant: the lengths of the levels below level j are right, and `length` is that of
-- level j. Assumes nothing.
use Rattle.std.proofs.Common.{◌≡◌, Bool, true, List, ℕ, ◌+◌, ℤ, pos}
use Rattle.arith.specs.Lists.{at}
use Rattle.arith.specs.Tests.{eq_z, every}
use Rattle.store.specs.Sizes.{level_length}
use Rattle.store.specs.Store.{sample_count}
use Rattle.store.proofs.lengths_right.Given as goal

-- length j is right
abbrev pub right : List ℤ → ℕ → Bool
right store j = eq_z (at store (2 + j)) (pos (level_length (sample_count store) j))

abbrev pub invariant-loop-word : goal.invariant-loop-word
invariant-loop-word l = record {
  length : l.length ≡ level_length (sample_count l.store) l.word-index;
  right : every l.word-index (right l.store) ≡ true;
}
