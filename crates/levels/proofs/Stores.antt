-- A store that begins with the words that the builder writes, as an accepted build leaves it: what its header names, that it is accepted, and which
-- words its levels have. Assumes nothing.
use mathlib.Core.Bool.{true}
use mathlib.Core.List.{List, ◌++◌, append_assoc}
use mathlib.Core.Path.{◌≡◌, ap, ◌∙◌}
use Prim.Native.Nat.{ℕ, ◌+◌, ◌≤◌}
use native.Mathlib.Omega.{arith}
use lib.IntN.{ℤ, pos}
use lib.ListN.{length, drop, length-append}
use Rattle.book.specs.Book.{level_taps}
use Rattle.store.specs.Sizes.{samples_in_range, top_in_range, store_length}
use Rattle.store.specs.Store.{header_of, top_level, store_level}
use Rattle.store.specs.Check.{store_number}
use Rattle.store.proofs.Lengths.{store_length_is}
use Rattle.store.proofs.Headers.{length_header, header_top, header_accepted, behind_header}
use Rattle.levels.specs.Levels.{level_of, levels_of}
use Rattle.levels.specs.Build.{built_store, build_answer}
use Rattle.levels.proofs.Laws.{length_levels, level_begins}

module _ (h x : List ℤ) (T : ℕ) where
  pub length-built : length (built_store h x T) ≡ store_length (length x) T
  unfolding built_store
  length-built =
      length-append (header_of (length x) T) (levels_of h x T)
      ∙ omega (arith, length_header (length x) T, length_levels h x T, store_length_is (length x) T)

  module _ (rest : List ℤ) where
    -- the header comes first
    headed : built_store h x T ++ rest ≡ header_of (length x) T ++ (levels_of h x T ++ rest)
    unfolding built_store
    headed = append_assoc (header_of (length x) T) (levels_of h x T) rest

    pub built_top : top_level (built_store h x T ++ rest) ≡ T
    built_top = ap top_level headed ∙ header_top (length x) T (levels_of h x T ++ rest)

    pub built_accepted : samples_in_range (pos (length x)) ≡ true → top_in_range (pos T) ≡ true → store_number (built_store h x T ++ rest) ≡ 0
    built_accepted s t =
        ap store_number headed
        ∙ header_accepted (length x) T (levels_of h x T ++ rest) s t (omega (arith, length-append (levels_of h x T) rest, length_levels h x T))

    pub built_level : (l : ℕ) → l ≤ T → store_level (built_store h x T ++ rest) l ≡ level_of h x l
    built_level l low = ap (λ s. store_level s l) headed ∙ behind_header (length x) T (levels_of h x T ++ rest) l ∙ level_begins h x rest T l low

-- the store of an accepted build: what lies behind the words that are written is as it was
pub accepted_store : (b x store : List ℤ) (T : ℕ) → (build_answer b x T store).number ≡ 0
    → (build_answer b x T store).store ≡ built_store (level_taps b) x T ++ drop (store_length (length x) T) store
unfolding build_answer
accepted_store b x store T e =
    let words = built_store (level_taps b) x T in
    let end : 0 + length words ≡ store_length (length x) T = omega (arith, length-built (level_taps b) x T) in
    rw e (ap (λ n. words ++ drop n store) end)
