-- How long a store must be, for a caller that makes room for it.
use Rattle.std.specs.Prelude.{cond, ◌&&◌, ℕ, pos}
use Rattle.store.specs.Sizes.{samples_in_range, top_in_range, store_length}

-- the words of header and levels 0..T of S samples, and 0 where S or T is outside its range
unfoldable pub store_words : ℕ → ℕ → ℕ
store_words S T = cond (samples_in_range (pos S) && top_in_range (pos T)) (store_length S T) 0
