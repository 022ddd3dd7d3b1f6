-- `rows::row_of` meets its contract. The loop's invariant: the words passed are written. Assumes nothing.
use mathlib.Core.Path.{◌≡◌}
use Prim.Native.Nat.{ℕ, ◌<◌}
use lib.ListN.{length}
use lib.IntN.{pos, negsuc}
use Rattle.arith.specs.Lists.{at}
use Rattle.arith.specs.Limit.{limit}
use Rattle.rows.proofs.row_of.Given as goal

abbrev pub invariant-loop-k : goal.invariant-loop-k
invariant-loop-k g l = (length l.row ≡ g.row.N) × ((j : ℕ) → j < l.k → at l.row j ≡ limit (negsuc 32767) (pos 32767) (at l.words j))
