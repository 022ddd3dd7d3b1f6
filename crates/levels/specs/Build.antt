-- The level builder's answer (document 01, "Octave levels" and "When a call says no": building, 1 to 9; the header: document 02, (a)).
use Rattle.std.specs.Prelude.{not, ◌&&◌, cond, List, ◌++◌, ℕ, ltb, eqb, ℤ, pos, length}
use Rattle.arith.specs.Lists.{overwrite}
use Rattle.refusal.specs.Number.{refuse, ◌otherwise◌}
use Rattle.book.specs.Book.{level_taps}
use Rattle.book.specs.Check.{book_number}
use Rattle.store.specs.Sizes.{samples_in_range, top_in_range, store_length}
use Rattle.store.specs.Store.{header_of}
use Rattle.levels.specs.Levels.{levels_of}

-- what a call of the builder leaves: its number, and the words of the store
pub record Built : Type 0 where
  pub number : ℕ
  pub store : List ℤ

abbrev pub built : ℕ → List ℤ → Built
built n words = record { number = n; store = words }

-- 1 to 7 of the book, 8 of S and T, 9 of a store of so many words
unfoldable pub build_number : List ℤ → ℕ → ℕ → ℕ → ℕ
build_number b S T words =
    book_number b
    otherwise refuse 8 (not (samples_in_range (pos S) && top_in_range (pos T)))
    otherwise refuse 9 (ltb words (store_length S T))

-- the words that it writes: the header, then the levels. h is the list of level taps.
unfoldable pub built_store : List ℤ → List ℤ → ℕ → List ℤ
built_store h samples T = header_of (length samples) T ++ levels_of h samples T

-- a refusal leaves every word; else the store begins with those, and the words after them are left
unfoldable pub build_answer : List ℤ → List ℤ → ℕ → List ℤ → Built
build_answer b samples T store =
    let n = build_number b (length samples) T (length store) in
    built n (cond (eqb n 0) (overwrite store 0 (built_store (level_taps b) samples T)) store)
