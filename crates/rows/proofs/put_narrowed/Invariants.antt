-- `rows::put_narrowed` meets its contract. The loop's invariant: the words passed are written, and no other. Assumes nothing.
use mathlib.Core.Path.{◌≡◌}
use Prim.Native.Nat.{ℕ, ◌≤◌, ◌<◌}
use lib.IntN.{pos, negsuc}
use Rattle.arith.specs.Lists.{at}
use Rattle.arith.specs.Limit.{limit}
use Rattle.rows.proofs.put_narrowed.Given as goal

abbrev pub invariant-loop-k : goal.invariant-loop-k
invariant-loop-k l =
    ((j : ℕ) → j < l.k → at l.row j ≡ limit (negsuc 32767) (pos 32767) (at l.words j)) × ((j : ℕ) → l.k ≤ j → at l.row j ≡ at l.initial.row j)
