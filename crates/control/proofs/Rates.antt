-- A rate of an f32 is whole in steps of 2^-27 and lies in 2^23..2^(28 + top) − 1. Scaled in an f64 it is exact, and its cast loses nothing.
-- The level of its octave is at most the top one.
-- Assumes nothing.
use mathlib.Core.Path.{◌≡◌, refl, sym, ap, ◌∙◌}
use mathlib.Core.Bool.{Bool, true, false, not, ◌&&◌, ◌||◌, cond, true≢false}
use Prim.Native.Nat.{ℕ, zero, suc, ◌+◌, ◌-◌, ◌*◌, ◌/◌, ◌%◌, ◌^◌, ◌≤◌, ◌<◌, min, max}
use native.Mathlib.Nat.{lt_of_lt_of_le, lt_of_not-le, mul_assoc, mul_right_comm, mul-one, one-mul, mul-div_cancel, mul-mod_left, mul-le-mul_right, le-div_iff_mul-le, div-lt_iff_lt-mul, eq_of_mul-eq-mul_right}
use native.Mathlib.Decide.{ℕ_discrete, dec_lt}
use native.Mathlib.Omega.{arith}
use lib.IntN.{ℤ, pos, negsuc}
use lib.Dec.{T, leb, ltb, eqb, ltb→lt, lit≤}
use lib.Pow.{pow-add, pow_pos, pow_mono, shl_lt}
use lib.Ieee.{Float, nan, inf, fin, binary32, binary64, up, down, fits, is_nan, lt, le, mul, whole, in_unsigned, to_unsigned}
use lib.Ieee.Fits.{down_pos, and_l, and_r, and_i, fits_widens}
use lib.Ieee.Exact.{HasValue, round_exact}
use borrow.Author.Tests.{eqb-true, leb-true, ltb-true, ltb-false, leb-false, le-leb, le-ltb, lt-ltb, eq-eqb, ne_eqb}
use Rattle.arith.proofs.Tests.{&&-left, &&-right}
use Rattle.control.specs.Rate.{rate_in_range, rate_of, octave_level}

-- downwards the level stays
abbrev pub stays_down : ℕ → ℕ → Bool
stays_down l R = not (ltb (16 * R) (15 * 2 ^ (27 + l)))

-- ---- the comparisons are the tests of `rate_in_range`
le_is : (a b : ℕ) → (ltb a b || (eqb a b && true)) ≡ leb a b
le_is a b = go (leb a b) (ltb a b) refl refl
  where
    go : (x y : Bool) → leb a b ≡ x → ltb a b ≡ y → (y || (eqb a b && true)) ≡ x
    go true true p q = refl
    go true false p q = simp (eq-eqb a b (omega (arith, leb-true a b p, ltb-false a b q)))
    go false true p q = absurd (omega (arith, leb-false a b p, ltb-true a b q))
    go false false p q = simp (ne_eqb a b (λ (e : a ≡ b). omega (arith, leb-false a b p)))

-- what is negative is not from 1/16 on
no_sign : (t : Bool) (d : ℕ) → 0 < d → t && eqb (1 * d) 0 ≡ true → ⊥
no_sign t d p h = let z : 1 * d ≡ 0 = eqb-true (1 * d) 0 (&&-right t (eqb (1 * d) 0) h) in omega arith

pub below_top : (r : Float) (top : ℕ) → le (fin false 1 (negsuc 3)) r ≡ true → lt r (fin false 1 (pos (top + 1))) ≡ rate_in_range r top
unfolding le lt rate_in_range
below_top nan top h = refl
below_top (inf true) top h = absurd (true≢false (sym h))
below_top (inf false) top h = refl
below_top (fin true m e) top h = absurd (no_sign (eqb (1 * 1 * down e) (m * up e * 16)) (down e) (down_pos e) h)
below_top (fin false m e) top h = simp (mul-one, one-mul, simp (le_is, one-mul) at h)

pub not-below : (r : Float) (top : ℕ) → le (fin false 1 (negsuc 3)) r ≡ false → false ≡ rate_in_range r top
unfolding le rate_in_range
not-below nan top h = refl
not-below (inf s) top h = refl
not-below (fin true m e) top h = refl
not-below (fin false m e) top h = simp (simp (le_is, one-mul) at h)

-- ---- with at most 24 digits, a value from 1/16 on has no place below 2^-27
places : (m k : ℕ) → m < 2 ^ 24 → 2 ^ suc k ≤ m * 1 * 16 → suc k ≤ 27
places m k h g =
    lt_of_not-le (λ (l : 27 ≤ k).
    let q : 28 ≤ suc k = omega arith in
    let p : 2 ^ 28 ≤ 2 ^ suc k = pow_mono q in
    omega arith)

back : (j : ℕ) → j ≤ 27 → 2 ^ (27 - j) * 2 ^ j ≡ 2 ^ 27
back j h = let e : 27 - j + j ≡ 27 = omega arith in sym (pow-add 2 (27 - j) j) ∙ ap (λ (i : ℕ). 2 ^ i) e

whole_steps : (m : ℕ) (e : ℤ) → m < 2 ^ 24 → down e ≤ m * up e * 16 → m * up e * 2 ^ 27 ≡ m * up e * 2 ^ 27 / down e * down e
whole_steps m (pos k) h g = omega arith
whole_steps m (negsuc k) h g =
    let d = 2 ^ suc k in
    let n = m * 1 * 2 ^ (27 - suc k) in
    let p : n * d ≡ m * 1 * 2 ^ 27 = mul_assoc (m * 1) (2 ^ (27 - suc k)) d ∙ ap (λ (x : ℕ). m * 1 * x) (back (suc k) (places m k h g)) in
    sym (ap (λ (x : ℕ). x / d * d) (sym p) ∙ ap (λ (x : ℕ). x * d) (mul-div_cancel n (pow_pos (suc k))) ∙ p)

digits : (s : Bool) (m : ℕ) (e : ℤ) → T (fits binary32 (fin s m e)) → m < 2 ^ 24
unfolding fits
digits s zero e t = omega arith
digits s (suc m) e t = ltb→lt (suc m) (2 ^ 24) (and_r (eqb (suc m % 2) 1) (ltb (suc m) (2 ^ 24)) (and_l (eqb (suc m % 2) 1 && ltb (suc m) (2 ^ 24)) (leb (down e) (2 ^ 149)) (and_l (eqb (suc m % 2) 1 && ltb (suc m) (2 ^ 24) && leb (down e) (2 ^ 149)) (ltb (suc m * up e) (2 ^ 128 * down e)) t)))

bounds : (m : ℕ) (e : ℤ) (top : ℕ) → rate_in_range (fin false m e) top ≡ true → (down e ≤ m * up e * 16) × (m * up e < 2 ^ (top + 1) * down e)
unfolding rate_in_range
bounds m e top h = (leb-true _ _ (&&-left _ _ h), ltb-true _ _ (&&-right (leb (down e) (m * up e * 16)) _ h))

-- r is exactly R / 2^27
pub rate_exact : (r : Float) (top : ℕ) → T (fits binary32 r) → rate_in_range r top ≡ true → HasValue r false (rate_of r) (2 ^ 27)
unfolding rate_in_range rate_of
rate_exact nan top f h = absurd (true≢false (sym h))
rate_exact (inf s) top f h = absurd (true≢false (sym h))
rate_exact (fin true m e) top f h = absurd (true≢false (sym h))
rate_exact (fin false m e) top f h =
    (refl, whole_steps m e (digits false m e f) (bounds m e top h).0)

pub rate_low : (r : Float) (top : ℕ) → rate_in_range r top ≡ true → 2 ^ 23 ≤ rate_of r
unfolding rate_in_range rate_of
rate_low nan top h = absurd (true≢false (sym h))
rate_low (inf s) top h = absurd (true≢false (sym h))
rate_low (fin true m e) top h = absurd (true≢false (sym h))
rate_low (fin false m e) top h = (le-div_iff_mul-le (down_pos e)).1 (omega (arith, (bounds m e top h).0))

pub rate_high : (r : Float) (top : ℕ) → rate_in_range r top ≡ true → rate_of r < 2 ^ (28 + top)
unfolding rate_in_range rate_of
rate_high nan top h = absurd (true≢false (sym h))
rate_high (inf s) top h = absurd (true≢false (sym h))
rate_high (fin true m e) top h = absurd (true≢false (sym h))
rate_high (fin false m e) top h =
    let b : m * up e < 2 ^ (top + 1) * down e = (bounds m e top h).1 in
    let q : 28 + top ≡ top + 1 + 27 = omega arith in
    let p : 2 ^ (28 + top) ≡ 2 ^ (top + 1) * 2 ^ 27 = ap (λ (i : ℕ). 2 ^ i) q ∙ pow-add 2 (top + 1) 27 in
    let w : m * up e * 2 ^ 27 < 2 ^ (top + 1) * down e * 2 ^ 27 = omega arith in
    let v : 2 ^ (28 + top) * down e ≡ 2 ^ (top + 1) * down e * 2 ^ 27 = ap (λ (x : ℕ). x * down e) p ∙ mul_right_comm (2 ^ (top + 1)) (2 ^ 27) (down e) in
    (div-lt_iff_lt-mul (down_pos e)).1 (omega arith)

-- a rate below a lower limit is below a higher one
pub rate_wider : (r : Float) (top upper : ℕ) → top ≤ upper → rate_in_range r top ≡ true → rate_in_range r upper ≡ true
unfolding rate_in_range
rate_wider nan top upper l h = h
rate_wider (inf s) top upper l h = h
rate_wider (fin true m e) top upper l h = h
rate_wider (fin false m e) top upper l h =
    let b : m * up e < 2 ^ (top + 1) * down e = (bounds m e top h).1 in
    let k : top + 1 ≤ upper + 1 = omega arith in
    let p : 2 ^ (top + 1) * down e ≤ 2 ^ (upper + 1) * down e = mul-le-mul_right (down e) (pow_mono k) in
    simp (le-leb _ _ (bounds m e top h).0, lt-ltb (m * up e) (2 ^ (upper + 1) * down e) (lt_of_lt_of_le b p))

-- ---- a value n / 1 is cast to n
cast_of : (x : Float) (a c n : ℕ) → 0 < c → n < 2 ^ 53 → a ≡ n * c → HasValue x false a c → T (in_unsigned binary64 64 x) × (to_unsigned 64 x ≡ n)
unfolding in_unsigned to_unsigned whole
cast_of nan a c n p l q h = absurd h
cast_of (inf s) a c n p l q h = absurd h
cast_of (fin true m e) a c n p l q h = absurd (true≢false h.0)
cast_of (fin false m e) a c n p l q h =
    let v : m * up e ≡ n * down e = eq_of_mul-eq-mul_right c p (m * up e) (n * down e) (h.1 ∙ ap (λ (x : ℕ). x * down e) q ∙ mul_right_comm n c (down e)) in
    let d : m * up e / down e ≡ n = ap (λ (x : ℕ). x / down e) v ∙ mul-div_cancel n (down_pos e) in
    let r : m * up e % down e ≡ 0 = ap (λ (x : ℕ). x % down e) v ∙ mul-mod_left n (down e) in
    (simp (r, d, le-leb n (2 ^ 53) (omega arith), lt-ltb n (2 ^ 64) (omega arith)) tt, ap (λ (x : ℕ). min x (2 ^ 64 - 1)) d ∙ omega arith)

pub scaled_cast : (r : Float) → T (fits binary32 r) → rate_in_range r 4 ≡ true → T (in_unsigned binary64 64 (mul binary64 r (fin false 1 (pos 27)))) × (to_unsigned 64 (mul binary64 r (fin false 1 (pos 27))) ≡ rate_of r)
unfolding mul rate_of
scaled_cast nan f h = absurd (true≢false (sym (unfold rate_in_range in h)))
scaled_cast (inf s) f h = absurd (true≢false (sym (unfold rate_in_range in h)))
scaled_cast (fin true m e) f h = absurd (true≢false (sym (unfold rate_in_range in h)))
scaled_cast (fin false m e) f h =
    let n = m * up e * 2 ^ 27 / down e in
    let hi : n < 2 ^ 32 = rate_high (fin false m e) 4 h in
    let dp : 0 < down e * 1 = omega (arith, down_pos e) in
    let q : m * up e * (1 * 2 ^ 27) ≡ n * (down e * 1) = whole_steps m e (digits false m e f) (bounds m e 4 h).0 ∙ ap (λ (d : ℕ). n * d) (sym (mul-one (down e))) in
    cast_of (mul binary64 (fin false m e) (fin false 1 (pos 27))) (m * up e * (1 * 2 ^ 27)) (down e * 1) n dp (omega arith) q
    (round_exact binary64 false (m * up e * (1 * 2 ^ 27)) (down e * 1) n 1074 dp (omega arith) (shl_lt 1024 1074 (lt_of_lt_of_le hi (lit≤ tt)))
    (ap (λ (x : ℕ). x * 2 ^ 1074) q ∙ mul_right_comm n (down e * 1) (2 ^ 1074)))

number : (r : Float) → rate_in_range r 4 ≡ true → T (not (is_nan r))
unfolding rate_in_range is_nan
number nan h = absurd (true≢false (sym h))
number (inf s) h = tt
number (fin s m e) h = tt

pub not_nan : (r : Float) → T (fits binary32 r) → rate_in_range r 4 ≡ true → T (fits binary64 r && not (is_nan r))
not_nan r f h = and_i (fits binary64 r) (not (is_nan r)) (fits_widens r f) (number r h)

-- ---- the level of a rate's octave

-- a number between two powers of two
exponent_below : (i j : ℕ) {R : ℕ} → 2 ^ i ≤ R → R < 2 ^ j → i < j
exponent_below i j l u = lt_of_not-le (λ (g : j ≤ i). omega (arith, pow_mono g))

-- from where its octave begins, if that is not the lowest, up to below the next, if there is one
octave_ends : (R : ℕ) → ((octave_level R ≡ 0 → ⊥) → 2 ^ (27 + octave_level R) ≤ R) × (octave_level R < 4 → R < 2 ^ (28 + octave_level R))
unfolding octave_level
octave_ends R = go (ltb R (2 ^ 28)) (ltb R (2 ^ 29)) (ltb R (2 ^ 30)) (ltb R (2 ^ 31)) refl refl refl refl
  where
    go : (a b c d : Bool) → ltb R (2 ^ 28) ≡ a → ltb R (2 ^ 29) ≡ b → ltb R (2 ^ 30) ≡ c → ltb R (2 ^ 31) ≡ d → let l : ℕ = cond a 0 (cond b 1 (cond c 2 (cond d 3 4))) in ((l ≡ 0 → ⊥) → 2 ^ (27 + l) ≤ R) × (l < 4 → R < 2 ^ (28 + l))
    go true b c d e f g h = ((λ n. absurd (n refl)), (λ k. ltb-true R (2 ^ 28) e))
    go false true c d e f g h = ((λ n. ltb-false R (2 ^ 28) e), (λ k. ltb-true R (2 ^ 29) f))
    go false false true d e f g h = ((λ n. ltb-false R (2 ^ 29) f), (λ k. ltb-true R (2 ^ 30) g))
    go false false false true e f g h = ((λ n. ltb-false R (2 ^ 30) g), (λ k. ltb-true R (2 ^ 31) h))
    go false false false false e f g h = ((λ n. ltb-false R (2 ^ 31) h), (λ k. absurd (omega arith)))

pub octave_high : (R : ℕ) → octave_level R < 4 → R < 2 ^ (28 + octave_level R)
octave_high R = (octave_ends R).1

pub octave-≤ : (R top : ℕ) → R < 2 ^ (28 + top) → octave_level R ≤ top
octave-≤ R top u = go (ℕ_discrete (octave_level R) 0)
  where
    go : Dec (octave_level R ≡ 0) → octave_level R ≤ top
    go (yes z) = omega (arith, z)
    go (no n) = omega (arith, exponent_below (27 + octave_level R) (28 + top) ((octave_ends R).0 n) u)

-- the whole part of log2 r, from 0 to 4, of m, the whole part of r or 1
pub octave_is : (R m e : ℕ) → m ≡ max (R / 2 ^ 27) 1 → 2 ^ e ≤ m → m < 2 * 2 ^ e → min e 4 ≡ octave_level R
unfolding octave_level
octave_is R m e i l u = go (dec_lt R (2 ^ 28)) (dec_lt R (2 ^ 29)) (dec_lt R (2 ^ 30)) (dec_lt R (2 ^ 31))
  where
    next : m < 2 ^ suc e
    next = omega arith

    go : Dec (R < 2 ^ 28) → Dec (R < 2 ^ 29) → Dec (R < 2 ^ 30) → Dec (R < 2 ^ 31) → min e 4 ≡ cond (ltb R (2 ^ 28)) 0 (cond (ltb R (2 ^ 29)) 1 (cond (ltb R (2 ^ 30)) 2 (cond (ltb R (2 ^ 31)) 3 4)))
    go (yes a) b c d = let high = exponent_below e 1 l (omega arith) in simp (lt-ltb R (2 ^ 28) a) (omega arith)
    go (no a) (yes b) c d =
        let low = exponent_below 1 (suc e) (omega arith) next in
        let high = exponent_below e 2 l (omega arith) in
        simp (le-ltb R (2 ^ 28) (omega arith), lt-ltb R (2 ^ 29) b) (omega arith)
    go (no a) (no b) (yes c) d =
        let low = exponent_below 2 (suc e) (omega arith) next in
        let high = exponent_below e 3 l (omega arith) in
        simp (le-ltb R (2 ^ 28) (omega arith), le-ltb R (2 ^ 29) (omega arith), lt-ltb R (2 ^ 30) c) (omega arith)
    go (no a) (no b) (no c) (yes d) =
        let low = exponent_below 3 (suc e) (omega arith) next in
        let high = exponent_below e 4 l (omega arith) in
        simp (le-ltb R (2 ^ 28) (omega arith), le-ltb R (2 ^ 29) (omega arith), le-ltb R (2 ^ 30) (omega arith), lt-ltb R (2 ^ 31) d) (omega arith)
    go (no a) (no b) (no c) (no d) =
        let low = exponent_below 4 (suc e) (omega arith) next in
        simp (le-ltb R (2 ^ 28) (omega arith), le-ltb R (2 ^ 29) (omega arith), le-ltb R (2 ^ 30) (omega arith), le-ltb R (2 ^ 31) (omega arith)) (omega arith)
