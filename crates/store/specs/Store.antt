-- The level store (document 02, (a)): a header of S, T and the T+1 level lengths, then levels 0..T one after another. How it is written, and how
-- it is read.
use Rattle.std.specs.Prelude.{List, ◌∷◌, ℕ, suc, ℤ, pos, nat_abs}
use Rattle.arith.specs.Lists.{at, part, tabulate}
use Rattle.store.specs.Sizes.{level_length, level_start}

-- the header of a store for S and T
unfoldable pub header_of : ℕ → ℕ → List ℤ
header_of S T = pos S ∷ pos T ∷ tabulate (suc T) (λ j. pos (level_length S j))

-- S and T as a store's header names them
unfoldable pub sample_count : List ℤ → ℕ
sample_count store = nat_abs (at store 0)

unfoldable pub top_level : List ℤ → ℕ
top_level store = nat_abs (at store 1)

-- the words of level l
unfoldable pub store_level : List ℤ → ℕ → List ℤ
store_level store l = let S = sample_count store in part store (level_start S (top_level store) l) (level_length S l)
