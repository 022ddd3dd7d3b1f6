-- `windows::staging::limited_words` meets its contract. The loop's invariant: the words passed are written. Assumes nothing.
use mathlib.Core.Path.{◌≡◌}
use Prim.Native.Nat.{ℕ, ◌<◌}
use Rattle.arith.specs.Lists.{at}
use Rattle.windows.proofs.Staged.{word_back}
use Rattle.windows.proofs.staging.limited_words.Given as goal

abbrev pub invariant-loop-k : goal.invariant-loop-k
invariant-loop-k l = (j : ℕ) → j < l.k → at l.window j ≡ word_back l.words l.level l.end j
