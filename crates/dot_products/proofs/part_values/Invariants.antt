-- `dot_products::part_values` meets its contract. The loop's invariant: the values of the places passed are written, the newest in front. Assumes nothing.
use mathlib.Core.Path.{◌≡◌}
use mathlib.Core.List.{List}
use Prim.Native.Nat.{ℕ}
use lib.IntN.{ℤ}
use lib.ListN.{get_or}
use Rattle.arith.specs.Lists.{at}
use Rattle.arith.proofs.Written.{newest}
use Rattle.dot_products.specs.Sums.{sum_here, sum_next, parts_value}
use Rattle.dot_products.proofs.part_values.Given as goal

-- the value at place k
abbrev pub value_at : List ℤ → List ℤ → List ℤ → List ℤ → List ℤ → ℕ → List ℕ → List ℕ → List ℕ → ℕ → ℤ
value_at one two low high table W rows firsts offsets k =
    parts_value (at one k) (sum_here low table W rows firsts k) (sum_next high table W rows firsts k) (at two k) (get_or offsets k 0)

abbrev pub invariant-loop-k : goal.invariant-loop-k
invariant-loop-k g l =
    l.line ≡ newest l.initial.line l.count (value_at l.one l.two l.low l.high l.table g.row.W l.places.rows.now l.places.firsts.now l.places.offsets.now) l.k
