-- What is known of a book without the numbers 1 to 3: its sizes are small, and its parts lie in it. Assumes nothing.
use Rattle.std.proofs.Common.{◌≡◌, ℕ, ◌+◌, ◌*◌, ◌<◌, ◌≤◌, Bool, true, List, length, take, drop, ℤ, pos, negsuc, nat_abs, ap, ◌∙◌, sym, arith}
use Rattle.std.proofs.lemmas.List.{take-take, length-take-le, drop-take, drop-drop}
use Rattle.arith.specs.Lists.{at, part}
use Rattle.arith.proofs.Lists.{part_length, at_part}
use Rattle.book.specs.declared.Sizes.{Sizes}
use Rattle.book.specs.declared.places.Parts.{Parts}
use Rattle.book.specs.Book.{sizes_of, impulse_word, impulse, differences_at, level_taps_at, decimation_taps_at, book_length, level_taps, decimation_taps}
use Rattle.book.specs.Check.{sizes_in_range, words_in_range, coefficients_in_range, phase_sum}
use Rattle.book.specs.Inner.{impulses, differences, taps}
use Rattle.arith.specs.Tests.{within, every}
use Rattle.arith.proofs.Tests.{every_part}
use Rattle.book.proofs.Bounds.{Bounded, bounded, array_high, array_low, length_is, decimation_at, end_at, impulses_small, row_below}
use Rattle.book.proofs.Parts.{phase_sum_stored, impulse_stored}
use Rattle.arith.specs.Sum.{total}
use Rattle.arith.proofs.Sum.{total_ext}

-- the sizes that were read
module _ (b : List ℤ) (s : Sizes) (read : s ≡ sizes_of b) (in_range : sizes_in_range b ≡ true) where
  pub read_bounded : Bounded s
  read_bounded = rw read (bounded b in_range)

  pub read_small : (s.phases * s.taps ≤ 3072) × (s.reach ≤ 40) × (s.decimation ≤ 40)
  read_small = (array_high read_bounded, read_bounded.reach_high, read_bounded.decimation_high)

-- number 4, of a part
abbrev pub tested : List ℤ → Bool
tested xs = every (length xs) (λ i. within (negsuc 32767) (pos 32767) (at xs i))

module _ (p : Parts) where
  abbrev b : List ℤ
  b = p.words.now

  abbrev pub array : ℕ
  array = p.sizes.phases * p.sizes.taps

  pub parts_bounded : Bounded p.sizes
  parts_bounded = read_bounded b p.sizes p.read p.in_range

  pub parts_length : length b ≡ 5 + array + array + (p.sizes.reach + 1) + (p.sizes.decimation + 1)
  parts_length = p.long ∙ ap book_length (sym p.read) ∙ length_is p.sizes

  -- where they lie
  pub room : (length b ≡ 5 + array + array + (p.sizes.reach + 1) + (p.sizes.decimation + 1))
      × (array ≤ 3072) × (p.sizes.taps ≤ array) × (2 ≤ p.sizes.taps) × (p.sizes.taps ≤ 24) × (p.sizes.reach ≤ 40) × (p.sizes.decimation ≤ 40)
  room =
      let f = parts_bounded in
      (parts_length, array_high f, array_low f, f.taps_low, f.taps_high, f.reach_high, f.decimation_high)

  -- by the sizes that were read
  pub array_is : (sizes_of b).phases * (sizes_of b).taps ≡ array
  array_is = ap (λ s. s.phases * s.taps) (sym p.read)

  -- ---- the parts, as the code takes them

  pub impulses_are : part b 5 array ≡ impulses b
  unfolding impulses
  impulses_are = ap (part b 5) (sym array_is)

  pub differences_are : part b (5 + array) array ≡ differences b
  unfolding differences differences_at
  differences_are = ap (λ s. part b (5 + s.phases * s.taps) (s.phases * s.taps)) p.read

  pub taps_are : part b (5 + array + array) (p.sizes.reach + 1 + (p.sizes.decimation + 1)) ≡ taps b
  unfolding taps level_taps_at differences_at
  taps_are = ap (λ s. part b (5 + s.phases * s.taps + s.phases * s.taps) (s.reach + 1 + (s.decimation + 1))) p.read

  -- ---- their lengths and words

  pub impulses_length : length (impulses b) ≡ array
  impulses_length = ap length (sym impulses_are) ∙ part_length b 5 array (omega (arith, room))

  pub differences_length : length (differences b) ≡ array
  differences_length = ap length (sym differences_are) ∙ part_length b (5 + array) array (omega (arith, room))

  pub taps_length : length (taps b) ≡ p.sizes.reach + 1 + (p.sizes.decimation + 1)
  taps_length = ap length (sym taps_are) ∙ part_length b (5 + array + array) (p.sizes.reach + 1 + (p.sizes.decimation + 1)) (omega (arith, room))

  module _ {xs : List ℤ} where
    pub impulses_long : xs ≡ impulses b → length xs ≡ array
    impulses_long e = ap length e ∙ impulses_length

    pub impulses_room : xs ≡ impulses b → (length xs ≤ 3072) × (2 ≤ p.sizes.taps) × (p.sizes.taps ≤ length xs)
    impulses_room e = omega (arith, impulses_long e, room)

    pub differences_long : xs ≡ differences b → length xs ≡ array
    differences_long e = ap length e ∙ differences_length

  pub at_impulses : (i : ℕ) → i < array → at (impulses b) i ≡ at b (5 + i)
  at_impulses i h = ap (λ xs. at xs i) (sym impulses_are) ∙ at_part b 5 array i h

  pub at_differences : (i : ℕ) → i < array → at (differences b) i ≡ at b (5 + array + i)
  at_differences i h = ap (λ xs. at xs i) (sym differences_are) ∙ at_part b (5 + array) array i h

  -- the taps of each kind
  pub level_taps_are : take (p.sizes.reach + 1) (taps b) ≡ level_taps b
  unfolding level_taps taps
  level_taps_are = ap (λ s. take (s.reach + 1) (taps b)) p.read ∙ take-take ((sizes_of b).reach + 1) _ (drop (level_taps_at (sizes_of b)) b) (omega arith)

  pub decimation_taps_are : take (p.sizes.decimation + 1) (drop (p.sizes.reach + 1) (taps b)) ≡ decimation_taps b
  unfolding decimation_taps decimation_taps_at taps
  decimation_taps_are =
      let s = sizes_of b in
      let same = ap (λ s. take (s.decimation + 1) (drop (s.reach + 1) (taps b))) p.read in
      let behind = drop-take (s.reach + 1) (s.decimation + 1) (drop (level_taps_at s) b) in
      let whole = take-take (s.decimation + 1) (s.decimation + 1) (drop (s.reach + 1) (drop (level_taps_at s) b)) (omega arith) in
      same ∙ ap (take (s.decimation + 1)) behind ∙ whole ∙ ap (take (s.decimation + 1)) (drop-drop (s.reach + 1) (level_taps_at s) b)

  pub level_taps_few : {xs : List ℤ} → xs ≡ level_taps b → (1 ≤ length xs) × (length xs ≤ 41)
  level_taps_few e =
      let n = ap length level_taps_are in
      let m = length-take-le (p.sizes.reach + 1) (taps b) (omega (arith, taps_length)) in
      omega (arith, ap length e, n, m, room)

  pub decimation_taps_few : {xs : List ℤ} → xs ≡ decimation_taps b → (1 ≤ length xs) × (length xs ≤ 41)
  decimation_taps_few e =
      let n = ap length decimation_taps_are in
      let m = part_length (taps b) (p.sizes.reach + 1) (p.sizes.decimation + 1) (omega (arith, taps_length)) in
      omega (arith, ap length e, n, m, room)

  -- ---- number 4, of each part

  pub impulses_tested : tested (impulses b) ≡ words_in_range b 5 ((sizes_of b).phases * (sizes_of b).taps)
  unfolding impulses words_in_range
  impulses_tested = every_part b 5 ((sizes_of b).phases * (sizes_of b).taps) (within (negsuc 32767) (pos 32767)) (omega (arith, array_is, room))

  pub taps_tested : tested (taps b) ≡ words_in_range b (level_taps_at (sizes_of b)) ((sizes_of b).reach + 1 + ((sizes_of b).decimation + 1))
  unfolding taps words_in_range
  taps_tested =
      let s = sizes_of b in
      every_part b (level_taps_at s) (s.reach + 1 + (s.decimation + 1)) (within (negsuc 32767) (pos 32767)) (omega (arith, p.long, end_at s, decimation_at s))

  -- ---- impulses in range, read from a part

  module _ (ranged : coefficients_in_range b ≡ true) (xs : List ℤ) (are : xs ≡ impulses b) where
    pub impulse_small : (i : ℕ) → i < array → nat_abs (at xs i) ≤ 32768
    impulse_small i h = rw (are, at_impulses i h) (impulses_small b ranged (5 + i) (omega arith) (omega (arith, array_is)))

    pub phase_total : (q : ℕ) → q < p.sizes.phases → total p.sizes.taps (λ k. nat_abs (at xs (q * p.sizes.taps + k))) ≡ phase_sum b q
    phase_total q h =
        let taps_read : (sizes_of b).taps ≡ p.sizes.taps = ap (λ s. s.taps) (sym p.read) in
        let phases_read : (sizes_of b).phases ≡ p.sizes.phases = ap (λ s. s.phases) (sym p.read) in
        let words = total_ext p.sizes.taps (λ k l. ap nat_abs (ap (λ ys. at ys (q * p.sizes.taps + k)) are ∙ at_impulses (q * p.sizes.taps + k) (row_below h l))) in
        words ∙ ap (λ n. total n (λ k. nat_abs (at b (5 + (q * n + k))))) (sym taps_read) ∙ sym (phase_sum_stored b q (omega (arith, phases_read)))

  -- G_0[0]
  pub first_impulse : {xs : List ℤ} → xs ≡ impulses b → at xs 0 ≡ impulse b 0 0
  unfolding impulse_word
  first_impulse e =
      let place : 5 + (0 * (sizes_of b).taps + 0) ≡ 5 = omega arith in
      ap (λ ys. at ys 0) e ∙ at_impulses 0 (omega (arith, room)) ∙ sym (impulse_stored b 0 0 (bounded b p.in_range).phases_low ∙ ap (at b) place)
