-- The sum around a word of a level, over the taps h on both sides: its parts, as the code adds them, and its size. Assumes nothing.
use Rattle.std.proofs.Common.{◌≡◌, ℕ, zero, suc, pred, ◌+◌, ◌-◌, ◌*◌, ◌^◌, ◌<◌, ◌≤◌, List, length, ℤ, pos, negsuc, ◌+ℤ◌, ◌-ℤ◌, ◌*ℤ◌, nat_abs, sym, refl, ap, ◌∙◌, ap₂, le_trans, le_refl, mul-le-mul, add-one, arith, w32, w64, SFits}
use Rattle.arith.specs.Lists.{at, word_at}
use Rattle.arith.specs.Sum.{sum_around, total}
use Rattle.arith.proofs.Linear.{linear}
use Rattle.arith.proofs.Integers.{*ℤ-+ℤ, abs_triangle, abs-*-≤, abs_fits}
use Rattle.arith.proofs.Lists.{at_outside, word_at_bound}
use Rattle.arith.proofs.Sum.{sum_around-abs-*, total_mono}
use Rattle.book.specs.Check.{tap_sum}

-- ---- words on both sides of a word

module _ (level : List ℤ) (centre k : ℕ) where
  pub before_inside : k ≤ centre → word_at level (pos centre -ℤ pos k) ≡ at level (centre - k)
  unfolding word_at
  before_inside h = let e : pos centre -ℤ pos k ≡ pos (centre - k) = simp linear (omega arith) in ap (word_at level) e

  pub before_outside : centre < k → word_at level (pos centre -ℤ pos k) ≡ pos 0
  unfolding word_at
  before_outside h = let e : pos centre -ℤ pos k ≡ negsuc (k - suc centre) = simp linear (omega arith) in ap (word_at level) e

  pub after_inside : word_at level (pos centre +ℤ pos k) ≡ at level (centre + k)
  unfolding word_at
  after_inside = refl

  pub after_outside : length level ≤ centre + k → word_at level (pos centre +ℤ pos k) ≡ pos 0
  unfolding word_at
  after_outside h = at_outside level (centre + k) h

-- ---- the sum

module _ (h level : List ℤ) (centre : ℕ) where
  -- over the taps below k, where k is above 0
  abbrev pub around : ℕ → ℤ
  around k = sum_around (pred k) (λ i. at h (nat_abs i) *ℤ word_at level (pos centre +ℤ i))

  pub around_one : around 1 ≡ at h 0 *ℤ at level centre
  unfolding sum_around word_at
  around_one = let e : centre + 0 ≡ centre = omega arith in ap (λ i. at h 0 *ℤ at level i) e

  -- x and y are the words k before and k after
  pub around_suc : (k : ℕ) → 1 ≤ k → {x y : ℤ} → x ≡ word_at level (pos centre -ℤ pos k) → y ≡ word_at level (pos centre +ℤ pos k) → around (suc k) ≡ around k +ℤ at h k *ℤ (x +ℤ y)
  unfolding sum_around
  around_suc zero l e f = absurd (omega arith)
  around_suc (suc k) l {x} {y} e f =
      ap (λ z. around (suc k) +ℤ z) (ap₂ (λ v w. at h (suc k) *ℤ v +ℤ at h (suc k) *ℤ w) (sym e) (sym f) ∙ sym (*ℤ-+ℤ (at h (suc k)) x y))

  pub around_more : (k : ℕ) → 1 ≤ k → {x y : ℤ} → x ≡ word_at level (pos centre -ℤ pos k) → y ≡ word_at level (pos centre +ℤ pos k) → around (k + 1) ≡ around k +ℤ at h k *ℤ (x +ℤ y)
  around_more k l e f = rw add-one (around_suc k l e f)

  module _ (small : tap_sum h ≤ 32768) (c : ℕ) (bound : (k : ℕ) → nat_abs (at level k) ≤ c) where
    pub around_bound : (k : ℕ) → k ≤ length h → nat_abs (around k) ≤ 32768 * c
    unfolding tap_sum
    around_bound k l =
        le_trans
        (sum_around-abs-* (pred k) (at h) (λ i. word_at level (pos centre +ℤ i)) c (λ i m. word_at_bound level c bound (pos centre +ℤ i)))
        (mul-le-mul (omega (arith, total_mono (pred k) (pred (length h)) (λ i. nat_abs (at h (suc i))) (omega arith))) (le_refl c))

-- each tap is at most their sum
pub tap_bound_lem : (h : List ℤ) (k : ℕ) → k < length h → nat_abs (at h k) ≤ tap_sum h
unfolding tap_sum total
tap_bound_lem h zero l = omega arith
tap_bound_lem h (suc k) l = omega (arith, total_mono (suc k) (pred (length h)) (λ i. nat_abs (at h (suc i))) (omega arith))

-- ---- each number on the way fits, where the words are at most 2 ^ 29

pub word_fits : (x : ℤ) → nat_abs x ≤ 2 ^ 29 → SFits w32 x
word_fits x l = abs_fits w32 x (omega arith)

pub pair_fits : (x y : ℤ) → nat_abs x ≤ 2 ^ 29 → nat_abs y ≤ 2 ^ 29 → SFits w64 (x +ℤ y)
pair_fits x y l m = abs_fits w64 (x +ℤ y) (omega (arith, abs_triangle x y))

module _ (h : List ℤ) (small : tap_sum h ≤ 32768) where
  pub tap_fits : (k : ℕ) → k < length h → SFits w32 (at h k)
  tap_fits k l = abs_fits w32 (at h k) (omega (arith, tap_bound_lem h k l))

  pub tapped_fits : (k : ℕ) → k < length h → (x y : ℤ) → nat_abs x ≤ 2 ^ 29 → nat_abs y ≤ 2 ^ 29 → SFits w64 (at h k *ℤ (x +ℤ y))
  tapped_fits k l x y m n =
      abs_fits w64 (at h k *ℤ (x +ℤ y)) (omega (
        arith,
        abs-*-≤ (at h k) (x +ℤ y) {m = 32768} {n = 2 ^ 30} (omega (arith, tap_bound_lem h k l)) (omega (arith, abs_triangle x y)),
      ))

  pub around_fits : (level : List ℤ) (centre : ℕ) → ((k : ℕ) → nat_abs (at level k) ≤ 2 ^ 29) → (k : ℕ) → k ≤ length h → SFits w64 (around h level centre k)
  around_fits level centre bound k l = abs_fits w64 (around h level centre k) (omega (arith, around_bound h level centre small (2 ^ 29) bound k l))

  pub first_fits : (level : List ℤ) (centre : ℕ) → ((k : ℕ) → nat_abs (at level k) ≤ 2 ^ 29) → 1 ≤ length h → SFits w64 (at h 0 *ℤ at level centre)
  first_fits level centre bound l = rw (← around_one h level centre) (around_fits level centre bound 1 l)
