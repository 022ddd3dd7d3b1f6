-- The laws of level values: how large they are, and that a value is linear in the words that it reads. Assumes nothing.
use mathlib.Core.Path.{◌≡◌, ap, ap₂, ◌∙◌}
use mathlib.Core.List.{List}
use Prim.Native.Nat.{ℕ, suc, ◌+◌, ◌*◌, ◌-◌, ◌/◌, ◌%◌, ◌^◌, ◌≤◌, ◌<◌}
use native.Mathlib.Nat.{le_trans, mul-le-mul_right, mod-lt, div-lt_iff_lt-mul}
use native.Mathlib.Omega.{arith}
use lib.IntN.{ℤ, pos, nat_abs, ◌+ℤ◌, ◌-ℤ◌, ◌*ℤ◌, *ℤ_comm}
use lib.Pow.{pow_pos, pow_mono, pow-add}
use Rattle.arith.specs.Lists.{word_at}
use Rattle.arith.specs.Sum.{total}
use Rattle.arith.proofs.Linear.{linear, abs-*}
use Rattle.arith.proofs.Ring.{products, terms}
use Rattle.arith.proofs.Integers.{abs_triangle}
use Rattle.arith.proofs.Floor.{near_bound}
use Rattle.arith.proofs.Limit.{limit_bound}
use Rattle.arith.proofs.Sum.{sum_ext, sum-abs-*, total-*, total-≤, total-+, total-reverse, sum_linear}
use Rattle.book.specs.Book.{sizes_of, impulse}
use Rattle.book.specs.Check.{phase_sum}
use Rattle.book.proofs.Accepted.{Accepted, sizes_bounded, difference_is, phase_sum_bound}
use Rattle.store.specs.Store.{store_level}
use Rattle.values.specs.Values.{limited_word, unit, phase_at, offset_at, coefficient, value_sum, level_value, value}

-- ---- a limited word

pub limited_word_bound : (words : List ℤ) (l : ℕ) (i : ℤ) → nat_abs (limited_word words l i) ≤ 2 ^ (23 + l)
unfolding limited_word
limited_word_bound words l i = limit_bound (2 ^ (23 + l)) (word_at words i)

-- ---- phase and offset

pub unit-pos : (l : ℕ) → 0 < unit l
unfolding unit
unit-pos l = pow_pos (28 + l)

-- 2^(4 − l) turns a level's units into those of level 4
pub unit_up : (l : ℕ) → l ≤ 4 → unit 4 ≡ unit l * 2 ^ (4 - l)
unfolding unit
unit_up l h = let e : 32 ≡ 28 + l + (4 - l) = omega arith in ap (λ k. 2 ^ k) e ∙ pow-add 2 (28 + l) (4 - l)

pub offset_below : (b : List ℤ) (l P : ℕ) → offset_at b l P < unit l
unfolding offset_at
offset_below b l P = mod-lt (P % unit l * (sizes_of b).phases) (unit-pos l)

module _ (b : List ℤ) (a : Accepted b) (l P : ℕ) where
  -- d is below 1, so that d × M is below M
  pub phase_below : phase_at b l P < (sizes_of b).phases
  unfolding phase_at
  phase_below =
      let f = sizes_bounded b a in
      let d : suc (P % unit l) * (sizes_of b).phases ≤ unit l * (sizes_of b).phases = mul-le-mul_right (sizes_of b).phases (mod-lt P (unit-pos l)) in
      (div-lt_iff_lt-mul (unit-pos l)).1 (omega (arith, f.phases_low))

-- ---- the coefficients

-- (r + e) × x + e × (y − x) = r × x + e × y
mix : (r e : ℕ) (x y : ℤ) → pos (r + e) *ℤ x +ℤ pos e *ℤ (y -ℤ x) ≡ pos r *ℤ x +ℤ pos e *ℤ y
mix r e x y = simp linear (omega arith)

-- a mean of two numbers of at most c is at most c
pub mean-≤ : (r e : ℕ) {x y c : ℕ} → x ≤ c → y ≤ c → x * r + y * e ≤ c * (r + e)
mean-≤ r e h k = omega (arith, mul-le-mul_right r h, mul-le-mul_right e k)

-- what the offset leaves of the unit
abbrev rest : List ℤ → ℕ → ℕ → ℕ
rest b l P = unit l - offset_at b l P

rest_is : (b : List ℤ) (l P : ℕ) → unit l ≡ rest b l P + offset_at b l P
rest_is b l P = omega (arith, offset_below b l P)

module _ (b : List ℤ) (a : Accepted b) (l P : ℕ) where
  -- a coefficient is a mean of G_q and G_(q+1), in units
  pub coefficient_mix : (k : ℕ) → k < (sizes_of b).taps
      → coefficient b l P k ≡ pos (unit l - offset_at b l P) *ℤ impulse b (phase_at b l P) k +ℤ pos (offset_at b l P) *ℤ impulse b (suc (phase_at b l P)) k
  unfolding coefficient
  coefficient_mix k h =
      let q = phase_at b l P in
      let e = offset_at b l P in
      ap₂ (λ u d. pos u *ℤ impulse b q k +ℤ pos e *ℤ d) (rest_is b l P) (difference_is b a q k (phase_below b a l P) h)
      ∙ mix (rest b l P) e (impulse b q k) (impulse b (suc q) k)

  coefficient-abs : (k : ℕ) → k < (sizes_of b).taps
      → nat_abs (coefficient b l P k) ≤ nat_abs (impulse b (phase_at b l P) k) * rest b l P + nat_abs (impulse b (suc (phase_at b l P)) k) * offset_at b l P
  coefficient-abs k h =
      let x = impulse b (phase_at b l P) k in
      let y = impulse b (suc (phase_at b l P)) k in
      let r = rest b l P in
      let e = offset_at b l P in
      rw (coefficient_mix k h) (omega (arith, abs_triangle (pos r *ℤ x) (pos e *ℤ y), abs-* (pos r) x, abs-* (pos e) y))

  -- their sizes, added up in the order of a value's sum: a mean of two phases' sums
  pub coefficient-sum : total (sizes_of b).taps (λ i. nat_abs (coefficient b l P ((sizes_of b).taps - suc i))) ≤ 65536 * unit l
  unfolding phase_sum
  coefficient-sum =
      let N = (sizes_of b).taps in
      let q = phase_at b l P in
      let r = rest b l P in
      let e = offset_at b l P in
      let x : ℕ → ℕ = λ k. nat_abs (impulse b q k) in
      let y : ℕ → ℕ = λ k. nat_abs (impulse b (suc q) k) in
      let below = phase_below b a l P in
      let sums : phase_sum b q * r + phase_sum b (suc q) * e ≤ 65536 * (r + e) = mean-≤ r e (phase_sum_bound b a q (omega arith)) (phase_sum_bound b a (suc q) below) in
      let each : total N (λ k. nat_abs (coefficient b l P k)) ≤ total N (λ k. x k * r + y k * e) = total-≤ N coefficient-abs in
      omega (
        arith,
        total-reverse N (λ k. nat_abs (coefficient b l P k)),
        each,
        total-+ N (λ k. x k * r) (λ k. y k * e),
        total-* N x r,
        total-* N y e,
        sums,
        rest_is b l P,
      )

-- ---- a value is linear in the words

pub value_sum_linear : (b : List ℤ) (c d : ℤ) (w w' : ℤ → ℤ) (l P : ℕ) → c *ℤ value_sum b w l P -ℤ d *ℤ value_sum b w' l P ≡ value_sum b (λ i. c *ℤ w i -ℤ d *ℤ w' i) l P
unfolding value_sum
value_sum_linear b c d w w' l P =
    let N = (sizes_of b).taps in
    let k : ℕ → ℤ = λ i. coefficient b l P (N - suc i) in
    let place : ℕ → ℤ = λ i. pos (P / unit l + suc i) -ℤ pos (N / 2) in
    sum_linear N c d (λ i. w (place i) *ℤ k i) (λ i. w' (place i) *ℤ k i)
    ∙ sum_ext N (λ i m. together (w (place i)) (w' (place i)) (k i))
  where
    together : (x y z : ℤ) → c *ℤ (x *ℤ z) -ℤ d *ℤ (y *ℤ z) ≡ (c *ℤ x -ℤ d *ℤ y) *ℤ z
    together x y z = simp products (simp terms (omega arith))

-- ---- how large a value's sum is

module _ (b : List ℤ) (a : Accepted b) where
  -- of words of at most X
  pub value_sum_bound : (word : ℤ → ℤ) (X l P : ℕ) → ((i : ℤ) → nat_abs (word i) ≤ X) → nat_abs (value_sum b word l P) ≤ 65536 * unit l * X
  unfolding value_sum
  value_sum_bound word X l P h =
      let N = (sizes_of b).taps in
      let c : ℕ → ℤ = λ i. coefficient b l P (N - suc i) in
      let place : ℕ → ℤ = λ i. pos (P / unit l + suc i) -ℤ pos (N / 2) in
      let w : ℕ → ℤ = λ i. word (place i) in
      rw (sum_ext N {f = λ i. w i *ℤ c i} {g = λ i. c i *ℤ w i} (λ i m. *ℤ_comm (w i) (c i)))
      (le_trans (sum-abs-* N c w X (λ i m. h (place i))) (mul-le-mul_right X (coefficient-sum b a l P)))

  -- of words that are at most X apart
  pub value_sum_apart : (c d : ℤ) (w w' : ℤ → ℤ) (X l P : ℕ) → ((i : ℤ) → nat_abs (c *ℤ w i -ℤ d *ℤ w' i) ≤ X)
      → nat_abs (c *ℤ value_sum b w l P -ℤ d *ℤ value_sum b w' l P) ≤ 65536 * unit l * X
  value_sum_apart c d w w' X l P h = rw (value_sum_linear b c d w w' l P) (value_sum_bound (λ i. c *ℤ w i -ℤ d *ℤ w' i) X l P h)

-- ---- how large values are

-- four times a word of its level
pub level_value_bound : (b : List ℤ) → Accepted b → (words : List ℤ) (l P : ℕ) → nat_abs (level_value b words l P) ≤ 2 ^ (25 + l)
unfolding level_value
level_value_bound b a words l P =
    let s = value_sum b (limited_word words l) l P in
    let four : 2 ^ (25 + l) ≡ 4 * 2 ^ (23 + l) = omega (arith, pow-add 2 25 l, pow-add 2 23 l) in
    let h : nat_abs s ≤ 65536 * unit l * 2 ^ (23 + l) = value_sum_bound b a (limited_word words l) (2 ^ (23 + l)) l P (limited_word_bound words l) in
    near_bound s {b = 16384 * unit l} (omega (arith, unit-pos l)) (2 ^ (25 + l)) (rw four (omega arith))

-- of the levels that there are
pub level_value_small : (b : List ℤ) → Accepted b → (words : List ℤ) (l P : ℕ) → l ≤ 4 → nat_abs (level_value b words l P) ≤ 2 ^ 29
level_value_small b a words l P h = le_trans (level_value_bound b a words l P) (pow_mono {j = 29} (omega arith))

pub value_small : (b : List ℤ) → Accepted b → (store : List ℤ) (l P : ℕ) → l ≤ 4 → nat_abs (value b store l P) ≤ 2 ^ 29
unfolding value
value_small b a store l P h = level_value_small b a (store_level store l) l P h
