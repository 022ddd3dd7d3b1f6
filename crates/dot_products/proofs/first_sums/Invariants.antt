-- `dot_products::first_sums` meets its contract. The loop's invariant: the sums at the places passed are written. Assumes nothing.
use mathlib.Core.Path.{◌≡◌}
use Prim.Native.Nat.{ℕ, ◌<◌}
use Rattle.arith.specs.Lists.{at}
use Rattle.dot_products.specs.Sums.{sum_here, sum_next}
use Rattle.dot_products.proofs.first_sums.Given as goal

abbrev pub invariant-loop-k : goal.invariant-loop-k
invariant-loop-k g l =
    ((j : ℕ) → j < l.k → at l.one j ≡ sum_here l.x l.table g.row.W l.places.rows.now l.places.firsts.now j)
    × ((j : ℕ) → j < l.k → at l.two j ≡ sum_next l.y l.table g.row.W l.places.rows.now l.places.firsts.now j)
