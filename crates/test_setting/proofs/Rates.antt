-- Rates of the stream: a whole number over a power of two is an f32 exactly, and the product with the reciprocal makes it. No order of the stream is refused for its rate or
-- count where T is 2 or more. Assumes nothing.
use mathlib.Core.Bool.{Bool, true, false, cond, true≢false}
use mathlib.Core.Path.{◌≡◌, refl, sym, ap, ap₂, ◌∙◌}
use Prim.Native.Nat.{ℕ, suc, ◌-◌, ◌+◌, ◌*◌, ◌/◌, ◌%◌, ◌^◌, ◌≤◌, ◌<◌}
use native.Mathlib.Nat.{lt_of_lt_of_le, mul-one, one-mul, mul_assoc, mul-le-mul_right, mul-lt-mul_of_pos_right}
use native.Mathlib.Omega.{arith}
use borrow.Author.Tests.{le-leb, lt-ltb}
use lib.Dec.{eqb}
use lib.Ieee.{Float, nan, inf, fin, binary32, up, down, round, mul, of_int}
use lib.Ieee.Back.{round_whole}
use lib.Ieee.Exact.{HasValue, round_exact}
use lib.Ieee.Fits.{down_pos}
use lib.Ieee.Positive.{positive_of_value, mul_at}
use lib.IntN.{pos, negsuc}
use lib.Pow.{pow-add, pow_pos, pow_mono, shl_lt}
use Rattle.refusal.specs.Number.{refuse, ◌otherwise◌}
use Rattle.control.specs.declared.Order.TheVariants.{Jump, Glide}
use Rattle.control.specs.Rate.{rate_in_range}
use Rattle.control.proofs.Rates.{rate_wider}
use Rattle.refusals.specs.Refusals.{glide_count_wrong, order_input_number}
use Rattle.test_setting.specs.Setting.{fraction}
use Rattle.test_setting.specs.Orders.{rate_from, order_from}

-- 1 / 2^(k+1)
abbrev pub reciprocal : ℕ → Float
reciprocal k = fin false 1 (negsuc k)

-- a whole number over a power of two: its product with the reciprocal is the nearest f32, and that is exact
module _ (n k : ℕ) (high : n < 2 ^ 24) where
  pub fraction_made : 0 < n → mul binary32 (of_int binary32 (pos n)) (reciprocal k) ≡ fraction n (2 ^ suc k)
  unfolding of_int
  fraction_made low =
      let w : HasValue (round binary32 false n 1) false n 1 = round_whole binary32 false n (omega arith) in
      let p : 0 < 2 ^ suc k = pow_pos (suc k) in
      let own : 1 * 1 * 2 ^ suc k ≡ 1 * 2 ^ suc k = omega arith in
      mul_at binary32 (round binary32 false n 1) (reciprocal k) n 1 1 (2 ^ suc k) (positive_of_value (round binary32 false n 1) n 1 w low) tt (omega arith) p w (refl, own)
      ∙ ap₂ (λ a b. round binary32 false a b) (mul-one n) (one-mul (2 ^ suc k))

  pub fraction_exact : suc k ≤ 149 → HasValue (fraction n (2 ^ suc k)) false n (2 ^ suc k)
  fraction_exact l =
      let j : ℕ = 149 - suc k in
      let i : j + suc k ≡ 149 = omega arith in
      let e : n * 2 ^ 149 ≡ n * 2 ^ j * 2 ^ suc k = ap (λ m. n * 2 ^ m) (sym i) ∙ ap (λ m. n * m) (pow-add 2 j (suc k)) ∙ sym (mul_assoc n (2 ^ j) (2 ^ suc k)) in
      let h : 24 + j ≤ 277 = omega arith in
      round_exact binary32 false n (2 ^ suc k) n j (pow_pos (suc k)) high (lt_of_lt_of_le (shl_lt 24 j high) (pow_mono h)) e

-- the rate of a state is exactly 1 + (state div 2^24)/64
pub rate_exact : (state : ℕ) → state < 2 ^ 32 → HasValue (rate_from state) false (64 + state / 2 ^ 24) 64
unfolding rate_from
rate_exact state h = fraction_exact (64 + state / 2 ^ 24) 5 (omega arith) (omega arith)

-- what is 1 or more and below 8 is a rate for T 2
below_8 : (r : Float) (n : ℕ) → HasValue r false n 64 → 64 ≤ n → n < 512 → rate_in_range r 2 ≡ true
unfolding rate_in_range
below_8 nan n v l h = absurd v
below_8 (inf s) n v l h = absurd v
below_8 (fin true m e) n v l h = absurd (true≢false v.0)
below_8 (fin false m e) n v l h =
    let a : down e ≤ m * up e * 16 = omega (arith, v.1, mul-le-mul_right (down e) l) in
    let b : m * up e < 8 * down e = omega (arith, v.1, mul-lt-mul_of_pos_right h (down_pos e)) in
    simp (le-leb _ _ a, lt-ltb _ _ b)

module _ (state T : ℕ) (fits : state < 2 ^ 32) (high : 2 ≤ T) where
  rate_accepted : rate_in_range (rate_from state) T ≡ true
  rate_accepted = rate_wider (rate_from state) 2 T high (below_8 (rate_from state) (64 + state / 2 ^ 24) (rate_exact state fits) (omega arith) (omega arith))

  pub order_accepted : order_input_number T (order_from state) ≡ 0
  unfolding order_from order_input_number glide_count_wrong refuse ◌otherwise◌
  order_accepted = go (eqb (state % 2) 0)
    where
      go : (even : Bool) → order_input_number T (cond even (Jump (rate_from state)) (Glide (rate_from state) 10)) ≡ 0
      go true = rw rate_accepted
      go false = rw rate_accepted
