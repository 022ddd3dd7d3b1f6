-- The rule of the differences, over sections of the two arrays. Assumes nothing.
use Rattle.std.proofs.Common.{◌≡◌, ℕ, ◌+◌, ◌-◌, ◌<◌, ◌≤◌, true, List, length, ℤ, pos, ◌-ℤ◌, nat_abs, ap, ap₂, ◌∙◌, arith, length-take, length-drop}
use Rattle.arith.specs.Lists.{at, part}
use Rattle.arith.specs.Tests.{eq_z, every}
use Rattle.arith.proofs.Lists.{part_length, at_part}
use Rattle.arith.proofs.Tests.{every_ext}
use Rattle.book.specs.declared.places.Parts.{Parts}
use Rattle.book.specs.Check.{coefficients_in_range}
use Rattle.book.specs.Inner.{impulses, differences}
use Rattle.book.proofs.Runs.{right_at}
use Rattle.book.proofs.Whole.{array, at_impulses, at_differences, impulses_long, differences_long, impulse_small}

-- what bounds each word bounds those of a section
section_small : (xs : List ℤ) {c : ℕ} → ((i : ℕ) → i < length xs → nat_abs (at xs i) ≤ c) → (a n i : ℕ) → i < length (part xs a n) → nat_abs (at (part xs a n) i) ≤ c
section_small xs small a n i h =
    let l = simp (length-take, length-drop) at h in
    let first : i < n = omega (arith, l) in
    rw (at_part xs a n i first) (small (a + i) (omega (arith, l)))

module _ (p : Parts) {is : List ℤ} (impulses_are : is ≡ impulses p.words.now) where
  abbrev b : List ℤ
  b = p.words.now

  abbrev A : ℕ
  A = array p

  pub impulses_small : coefficients_in_range b ≡ true → (a n i : ℕ) → i < length (part is a n) → nat_abs (at (part is a n) i) ≤ 32768
  impulses_small ranged = section_small is (λ i h. impulse_small p ranged is impulses_are i (omega (arith, impulses_long p impulses_are)))

  pub impulse_at : (i j : ℕ) → i < A → 5 + i ≡ j → at is i ≡ at b j
  impulse_at i j h e = ap (λ xs. at xs i) impulses_are ∙ at_impulses p i h ∙ ap (at b) e

  module _ {ds : List ℤ} (differences_are : ds ≡ differences p.words.now) where
    pub difference_at : (i j : ℕ) → i < A → 5 + A + i ≡ j → at ds i ≡ at b j
    difference_at i j h e = ap (λ xs. at xs i) differences_are ∙ at_differences p i h ∙ ap (at b) e

    -- a section of the differences, against two of the impulses
    pub section : (to next from count : ℕ) {m n k : ℕ} → m ≡ count → n ≡ count → k ≡ count → to + count ≤ A → next + count ≤ A → from + count ≤ A
        → every (length (part ds to m)) (λ i. eq_z (at (part ds to m) i) (at (part is next n) i -ℤ at (part is from k) i)) ≡ every count (right_at b (5 + A + to) (5 + next) (5 + from))
    section to next from count e f g h j l =
        let d = differences_long p differences_are in
        rw (e, f, g, part_length ds to count (omega arith)) (every_ext count (λ i u.
        ap₂ eq_z (at_part ds to count i u ∙ difference_at (to + i) (5 + A + to + i) (omega arith) (omega arith))
        (ap₂ ◌-ℤ◌ (at_part is next count i u ∙ impulse_at (next + i) (5 + next + i) (omega arith) (omega arith)) (at_part is from count i u ∙ impulse_at (from + i) (5 + from + i) (omega arith) (omega arith)))))

    -- the last difference
    pub last_word : 1 ≤ A → eq_z (at ds (A - 1)) (pos 0 -ℤ at is (A - 1)) ≡ eq_z (at b (4 + A + A)) (pos 0 -ℤ at b (4 + A))
    last_word h = ap₂ (λ x y. eq_z x (pos 0 -ℤ y)) (difference_at (A - 1) (4 + A + A) (omega arith) (omega arith)) (impulse_at (A - 1) (4 + A) (omega arith) (omega arith))

    -- the first of them
    pub first_words : (n count : ℕ) → n + count ≤ A → every count (λ i. eq_z (at ds i) (at is (n + i) -ℤ at is i)) ≡ every count (right_at b (5 + A) (5 + n) 5)
    first_words n count h =
        every_ext count (λ i l.
        ap₂ eq_z (difference_at i (5 + A + i) (omega arith) (omega arith)) (ap₂ ◌-ℤ◌ (impulse_at (n + i) (5 + n + i) (omega arith) (omega arith)) (impulse_at i (5 + i) (omega arith) (omega arith))))
