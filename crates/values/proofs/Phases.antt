-- A level's value from two phases: the words that it reads times the impulses of its phase, and times those of the next one. No difference is read.
-- Assumes nothing.
use mathlib.Core.Path.{◌≡◌, refl, sym, ap, ap₂, ◌∙◌}
use mathlib.Core.List.{List}
use Prim.Native.Nat.{ℕ, zero, suc, ◌+◌, ◌*◌, ◌-◌, ◌/◌, ◌^◌, ◌≤◌, ◌<◌}
use native.Mathlib.Nat.{le_trans, mul-le-mul_right, div-add-mod}
use native.Mathlib.Omega.{arith}
use lib.IntN.{ℤ, pos, nat_abs, ◌+ℤ◌, ◌-ℤ◌, ◌*ℤ◌, *ℤ_comm}
use lib.Pow.{pow_pos}
use Rattle.arith.specs.Floor.{near}
use Rattle.arith.specs.Sum.{sum}
use Rattle.arith.proofs.Linear.{linear}
use Rattle.arith.proofs.Ring.{products, terms}
use Rattle.arith.proofs.Floor.{near_scale}
use Rattle.arith.proofs.Sum.{sum_ext, sum_first, sum-+, sum-*, sum_linear, sum-abs-*}
use Rattle.book.specs.Book.{sizes_of, impulse}
use Rattle.book.specs.Check.{phase_sum}
use Rattle.book.proofs.Accepted.{Accepted, sizes_bounded, difference_is, phase_sum_bound}
use Rattle.values.specs.Values.{limited_word, unit, phase_at, offset_at, coefficient, value_sum, level_value}
use Rattle.values.specs.Inner.{phase_total}
use Rattle.values.proofs.Values.{unit-pos, unit_up, phase_below}

-- the last term first
sum-reverse : (n : ℕ) (f : ℕ → ℤ) → sum n (λ i. f (n - suc i)) ≡ sum n f
unfolding sum
sum-reverse zero f = refl
sum-reverse (suc n) f =
    let last : f (suc n - 1) ≡ f n = ap f (omega arith) in
    let rest : sum n (λ i. f (suc n - suc (suc i))) ≡ sum n (λ i. f (n - suc i)) = sum_ext n (λ i h. ap f (omega arith)) in
    sum_first n (λ i. f (suc n - suc i)) ∙ ap₂ ◌+ℤ◌ last (rest ∙ sum-reverse n f) ∙ swap (f n) (sum n f)
  where
    swap : (x y : ℤ) → x +ℤ y ≡ y +ℤ x
    swap x y = simp linear (omega arith)

module _ (b : List ℤ) (a : Accepted b) (word : ℤ → ℤ) (l P : ℕ) where
  abbrev N : ℕ
  N = (sizes_of b).taps

  abbrev q : ℕ
  q = phase_at b l P

  -- the word that goes with tap k
  abbrev word_at : ℕ → ℤ
  word_at k = word (pos (P / unit l + N / 2) -ℤ pos k)

  -- tap N − k of a value's sum goes with word k
  place_is : (i : ℕ) → i < N → pos (P / unit l + suc i) -ℤ pos (N / 2) ≡ pos (P / unit l + N / 2) -ℤ pos (N - suc i)
  place_is i h = simp linear (omega (arith, (sizes_bounded b a).taps-even, div-add-mod N 2))

  backwards : value_sum b word l P ≡ sum N (λ k. word_at k *ℤ coefficient b l P k)
  unfolding value_sum
  backwards =
      sum_ext N (λ i h. ap (λ z. word z *ℤ coefficient b l P (N - suc i)) (place_is i h))
      ∙ sum-reverse N (λ k. word_at k *ℤ coefficient b l P k)

  -- a value's sum: in its unit the sum over the phase, and in its offset what the next one adds
  pub value_sum_phases : value_sum b word l P ≡ pos (unit l) *ℤ phase_total b word l P q +ℤ pos (offset_at b l P) *ℤ (phase_total b word l P (suc q) -ℤ phase_total b word l P q)
  unfolding phase_total coefficient
  value_sum_phases =
      let u = pos (unit l) in
      let e = pos (offset_at b l P) in
      let g : ℕ → ℤ = λ k. word_at k *ℤ impulse b q k in
      let n : ℕ → ℤ = λ k. word_at k *ℤ impulse b (suc q) k in
      backwards
      ∙ sum_ext N (λ k h. ap (λ d. word_at k *ℤ (u *ℤ impulse b q k +ℤ e *ℤ d)) (difference_is b a q k (phase_below b a l P) h) ∙ spread u e (word_at k) (impulse b q k) (impulse b (suc q) k))
      ∙ sum-+ N (λ k. u *ℤ g k) (λ k. e *ℤ (n k -ℤ g k))
      ∙ ap₂ ◌+ℤ◌ (sum-* N u g) (sum-* N e (λ k. n k -ℤ g k) ∙ ap (λ z. e *ℤ z) (apart n g))
    where
      spread : (u e w x y : ℤ) → w *ℤ (u *ℤ x +ℤ e *ℤ (y -ℤ x)) ≡ u *ℤ (w *ℤ x) +ℤ e *ℤ (w *ℤ y -ℤ w *ℤ x)
      spread u e w x y = simp products (simp terms (omega arith))

      one : (x : ℤ) → pos 1 *ℤ x ≡ x
      one x = simp linear (omega arith)

      apart : (f g : ℕ → ℤ) → sum N (λ k. f k -ℤ g k) ≡ sum N f -ℤ sum N g
      apart f g =
          sum_ext N (λ k h. ap₂ ◌-ℤ◌ (sym (one (f k))) (sym (one (g k))))
          ∙ sym (sum_linear N (pos 1) (pos 1) f g)
          ∙ ap₂ ◌-ℤ◌ (one (sum N f)) (one (sum N g))

  -- the sizes of a phase times the largest word
  pub phase_total_bound : (X p : ℕ) → p ≤ (sizes_of b).phases → ((i : ℤ) → nat_abs (word i) ≤ X) → nat_abs (phase_total b word l P p) ≤ 65536 * X
  unfolding phase_total phase_sum
  phase_total_bound X p h small =
      rw (sum_ext N {f = λ k. word_at k *ℤ impulse b p k} {g = λ k. impulse b p k *ℤ word_at k} (λ k m. *ℤ_comm (word_at k) (impulse b p k)))
      (le_trans (sum-abs-* N (impulse b p) word_at X (λ k m. small (pos (P / unit l + N / 2) -ℤ pos k))) (mul-le-mul_right X (phase_sum_bound b a p h)))

-- a word of the level is 2^32 of level 4's units
pub word_units : (l : ℕ) → l ≤ 4 → 2 ^ 32 ≡ unit l * 2 ^ (4 - l)
unfolding unit
word_units l low = unit_up l low

-- a level's value, the offset and the divisor in level 4's units
pub level_value_phases : (b : List ℤ) (a : Accepted b) (words : List ℤ) (l P : ℕ) → l ≤ 4 → {x y : ℤ} {e : ℕ}
    → x ≡ phase_total b (limited_word words l) l P (phase_at b l P) → y ≡ phase_total b (limited_word words l) l P (suc (phase_at b l P)) → e ≡ offset_at b l P * 2 ^ (4 - l)
    → near (pos (2 ^ 32) *ℤ x +ℤ pos e *ℤ (y -ℤ x)) (16384 * 2 ^ 32) ≡ level_value b words l P
unfolding level_value
level_value_phases b a words l P low {x} {y} {e} f g h =
    let u = 2 ^ (4 - l) in
    let o = offset_at b l P in
    let whole : 2 ^ 32 ≡ unit l * u = word_units l low in
    let raised : pos (unit l * u) *ℤ x +ℤ pos (o * u) *ℤ (y -ℤ x) ≡ pos u *ℤ (pos (unit l) *ℤ x +ℤ pos o *ℤ (y -ℤ x)) = factor (unit l) o u x (y -ℤ x) in
    let d : 16384 * (unit l * u) ≡ u * (16384 * unit l) = omega arith in
    ap₂ (λ n m. near (pos n *ℤ x +ℤ pos m *ℤ (y -ℤ x)) (16384 * n)) whole h
    ∙ ap₂ near raised d
    ∙ near_scale (pos (unit l) *ℤ x +ℤ pos o *ℤ (y -ℤ x)) (16384 * unit l) (omega (arith, unit-pos l)) (pow_pos (4 - l))
    ∙ ap (λ z. near z (16384 * unit l)) (ap₂ (λ s t. pos (unit l) *ℤ s +ℤ pos o *ℤ (t -ℤ s)) f g ∙ sym (value_sum_phases b a (limited_word words l) l P))
  where
    factor : (u o k : ℕ) (x d : ℤ) → pos (u * k) *ℤ x +ℤ pos (o * k) *ℤ d ≡ pos k *ℤ (pos u *ℤ x +ℤ pos o *ℤ d)
    factor u o k x d = simp linear (omega arith)
