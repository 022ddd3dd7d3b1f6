-- `windows::staging::copied` meets its contract. The loop's invariant: the words passed are written, from the end of the window back, and no misses are
-- counted where they lie within the limit. Assumes nothing.
use mathlib.Core.Bool.{Bool}
use mathlib.Core.List.{List}
use mathlib.Core.Path.{◌≡◌}
use Prim.Native.Nat.{ℕ, ◌-◌, ◌≤◌, ◌<◌}
use lib.Dec.{eqb}
use lib.IntN.{ℤ}
use lib.ListN.{length}
use Rattle.arith.specs.Lists.{at}
use Rattle.arith.specs.Tests.{within, every}
use Rattle.windows.proofs.staging.copied.Given as goal

-- whether word k lies within the limit
abbrev pub holds : List ℤ → ℤ → ℤ → ℕ → Bool
holds words lo hi k = within lo hi (at words k)

-- the first k of n words, written back from the n-th place
abbrev pub Back : ℕ → List ℤ → List ℤ → ℕ → Type 0
Back n words window k = (j : ℕ) → j < k → at window (n - 1 - j) ≡ at words j

abbrev pub invariant-loop-k : goal.invariant-loop-k
invariant-loop-k l = (l.misses ≤ l.k) × Back (length l.words) l.words l.window l.k × (eqb l.misses 0 ≡ every l.k (holds l.words l.low l.bound))
