-- A store that begins with the header for S and T: what it names, that it is accepted, and where its levels lie. Assumes nothing.
use mathlib.Core.Bool.{true}
use mathlib.Core.List.{List, ◌++◌}
use mathlib.Core.Path.{◌≡◌, refl, sym, ap, ◌∙◌}
use Prim.Native.Nat.{ℕ, suc, ◌+◌, ◌≤◌, ◌<◌}
use native.Mathlib.Omega.{arith}
use borrow.Author.Tests.{le-ltb}
use lib.IntN.{ℤ, pos}
use lib.ListN.{length, take, drop, length-append, get_or-append}
use lib.Seq.{drop-append-add}
use Rattle.arith.specs.Lists.{at, part}
use Rattle.arith.proofs.Lists.{length-tabulate, get_or-tabulate}
use Rattle.arith.proofs.Tests.{eq_z_yes, every_all}
use Rattle.refusal.specs.Number.{refuse, ◌otherwise◌}
use Rattle.store.specs.Sizes.{samples_in_range, top_in_range, level_length, levels_below, header_length, level_start, store_length}
use Rattle.store.specs.Store.{header_of, sample_count, top_level, store_level}
use Rattle.store.specs.Check.{lengths_right, store_number}
use Rattle.store.proofs.Lengths.{store_length_is}

module _ (S T : ℕ) where
  pub length_header : length (header_of S T) ≡ 3 + T
  unfolding header_of
  length_header = omega (arith, length-tabulate (suc T) (λ j. pos (level_length S j)))

  pub at_header : (j : ℕ) → j < suc T → at (header_of S T) (2 + j) ≡ pos (level_length S j)
  unfolding header_of
  at_header j h = let e : 2 + j ≡ suc (suc j) = omega arith in rw e (get_or-tabulate (suc T) (λ j. pos (level_length S j)) j (pos 0) h)

  module _ (rest : List ℤ) where
    first_word : at (header_of S T ++ rest) 0 ≡ pos S
    unfolding header_of
    first_word = refl

    second_word : at (header_of S T ++ rest) 1 ≡ pos T
    unfolding header_of
    second_word = refl

    pub header_samples : sample_count (header_of S T ++ rest) ≡ S
    unfolding header_of sample_count
    header_samples = refl

    pub header_top : top_level (header_of S T ++ rest) ≡ T
    unfolding header_of top_level
    header_top = refl

    header_lengths : lengths_right (header_of S T ++ rest) ≡ true
    unfolding lengths_right
    header_lengths =
        rw (header_samples, header_top)
        (every_all (suc T) _
        (λ j h. eq_z_yes (get_or-append (header_of S T) rest (pos 0) (2 + j) (omega (arith, length_header)) ∙ at_header j h)))

    -- it is accepted, where S and T are in range and as many words are there as they call for
    pub header_accepted : samples_in_range (pos S) ≡ true → top_in_range (pos T) ≡ true → levels_below S (T + 1) ≤ length rest → store_number (header_of S T ++ rest) ≡ 0
    unfolding store_number refuse ◌otherwise◌
    header_accepted s t h =
        let store : List ℤ = header_of S T ++ rest in
        let long : length store ≡ 3 + T + length rest = omega (arith, length-append (header_of S T) rest, length_header) in
        let room : store_length S T ≤ length store = omega (arith, store_length_is S T) in
        let two : 2 ≤ length store = omega arith in
        simp (le-ltb (length store) 2 two, first_word, second_word, s, t, header_samples, header_top, le-ltb (length store) (store_length S T) room, header_lengths)

    -- a level lies behind the header as it lies in what comes after it
    pub behind_header : (l : ℕ) → store_level (header_of S T ++ rest) l ≡ part rest (levels_below S l) (level_length S l)
    unfolding store_level level_start header_length
    behind_header l =
        rw (header_samples, header_top)
        (ap (λ a. take (level_length S l) (drop (a + levels_below S l) (header_of S T ++ rest))) (sym length_header)
        ∙ ap (take (level_length S l)) (drop-append-add (header_of S T) rest (levels_below S l)))
