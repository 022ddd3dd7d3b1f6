-- Which stores are accepted: the store's part of the order of a call that is lent one (document 02, (a)).
use Rattle.std.specs.Prelude.{Bool, not, ◌&&◌, List, ℕ, suc, ◌+◌, ltb, ℤ, pos, length}
use Rattle.arith.specs.Lists.{at}
use Rattle.arith.specs.Tests.{eq_z, every}
use Rattle.refusal.specs.Number.{refuse, ◌otherwise◌}
use Rattle.store.specs.Sizes.{samples_in_range, top_in_range, level_length, store_length}
use Rattle.store.specs.Store.{sample_count, top_level}

-- each written length is the one that S and T give
unfoldable pub lengths_right : List ℤ → Bool
lengths_right store = every (suc (top_level store)) (λ j. eq_z (at store (2 + j)) (pos (level_length (sample_count store) j)))

-- 9 for fewer than two words, 8 on the two header words, read as signed, 9 on the length that they call for, 18 for a written length
unfoldable pub store_number : List ℤ → ℕ
store_number store =
    refuse 9 (ltb (length store) 2)
    otherwise refuse 8 (not (samples_in_range (at store 0) && top_in_range (at store 1)))
    otherwise refuse 9 (ltb (length store) (store_length (sample_count store) (top_level store)))
    otherwise refuse 18 (not (lengths_right store))
