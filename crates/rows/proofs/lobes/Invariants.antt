-- `rows::lobes` meets its contract. The loop's invariant: the rows that are left begin behind those passed, each of which has a positive coefficient.
-- Assumes nothing.
use mathlib.Core.Path.{◌≡◌}
use Prim.Native.Nat.{ℕ, ◌+◌, ◌*◌, ◌<◌}
use lib.ListN.{length}
use Rattle.arith.specs.Lists.{at}
use Rattle.rows.specs.Rows.{Positive}
use Rattle.rows.proofs.lobes.Given as goal

abbrev pub invariant-loop-row : goal.invariant-loop-row
invariant-loop-row l =
    let m = length l.yielded in
    (l.row-iterator.size ≡ l.width)
    × (length l.row-iterator.rest.now + m * l.width ≡ l.count * l.width)
    × ((k : ℕ) → k < length l.row-iterator.rest.now → at l.row-iterator.rest.now k ≡ at l.table (m * l.width + k))
    × ((i : ℕ) → i < m → Positive l.table (i * l.width) l.width)
