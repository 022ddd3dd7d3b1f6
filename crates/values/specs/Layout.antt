-- Where the parts of a book and a store lie that a play is lent, as a record that is made once per call says it.
use Rattle.std.specs.Prelude.{List, ◌≡◌, ℕ, ◌+◌, ◌≤◌, ◌<◌, ℤ, length, get_or}
use Rattle.book.specs.Book.{sizes_of}
use Rattle.book.specs.Check.{book_number}
use Rattle.store.specs.Sizes.{level_start}
use Rattle.store.specs.Store.{sample_count, top_level}
use Rattle.values.specs.declared.layout.Layout.{Layout}

-- the places are those that the store's header gives, and the store has room for levels 0..T
pub record LevelsIn (store : List ℤ) (T : ℕ) (l : Layout) : Type 0 where
  pub samples_high : sample_count store ≤ 1048576
  pub starts : (j : ℕ) → j < 6 → get_or l.starts j 0 ≡ level_start (sample_count store) (top_level store) j
  pub room : level_start (sample_count store) (top_level store) (T + 1) ≤ length store

-- the sizes are those of an accepted book
pub record SizesIn (b : List ℤ) (l : Layout) : Type 0 where
  pub book_accepted : book_number b ≡ 0
  pub taps : l.taps ≡ (sizes_of b).taps
  pub phases : l.phases ≡ (sizes_of b).phases
  pub fade : l.fade ≡ (sizes_of b).fade

-- a layout says both of the book and the store that it was made from
pub record LayoutOf (b store : List ℤ) (T : ℕ) (l : Layout) : Type 0 where
  pub sizes : SizesIn b l
  pub levels : LevelsIn store T l
