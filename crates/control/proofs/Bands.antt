-- The asked level by its band: inside the band of the current level it stays, and outside it is that of the rate's octave.
-- Assumes nothing.
use mathlib.Core.Path.{◌≡◌, refl, ap, ap₂, ◌∙◌}
use mathlib.Core.Bool.{Bool, true, false, not, ◌&&◌, cond}
use Prim.Native.Nat.{ℕ, ◌+◌, ◌*◌, ◌%◌, ◌^◌, ◌≤◌, ◌<◌}
use native.Mathlib.Decide.{ℕ_discrete, dec_lt}
use native.Mathlib.Nat.{lt_of_lt_of_le, mul-le-mul, mod-eq_of_lt}
use native.Mathlib.Omega.{arith}
use lib.Dec.{leb, ltb, eqb}
use lib.Pow.{pow-add, pow_mono}
use borrow.Author.Tests.{ltb-true, le-ltb, lt-ltb, le-leb, lt-leb, eq-eqb, ne_eqb}
use Rattle.arith.proofs.Tests.{&&-right, &&-true}
use Rattle.control.specs.declared.rate.Band.{Band}
use Rattle.control.specs.Rate.{octave_level, asked_level}
use Rattle.control.specs.Inner.{band_of, in_band}
use Rattle.control.proofs.Rates.{octave-≤, octave_high, stays_down}

-- 16 × R < 15 × 2^(27+l), with both sides in sixteenths
sixteenths : (l R : ℕ) → not (ltb (16 * R) (15 * 2 ^ (27 + l))) ≡ leb (15 * 2 ^ (23 + l)) R
sixteenths l R = go (dec_lt R (15 * 2 ^ (23 + l)))
  where
    unit : 2 ^ (27 + l) ≡ 16 * 2 ^ (23 + l)
    unit = let e : 27 + l ≡ 4 + (23 + l) = omega arith in ap (λ (i : ℕ). 2 ^ i) e ∙ pow-add 2 4 (23 + l)

    go : Dec (R < 15 * 2 ^ (23 + l)) → not (ltb (16 * R) (15 * 2 ^ (27 + l))) ≡ leb (15 * 2 ^ (23 + l)) R
    go (yes p) = simp (lt-ltb (16 * R) (15 * 2 ^ (27 + l)) (omega (arith, unit)), lt-leb (15 * 2 ^ (23 + l)) R p)
    go (no p) = simp (le-ltb (16 * R) (15 * 2 ^ (27 + l)) (omega (arith, unit)), le-leb (15 * 2 ^ (23 + l)) R (omega arith))

-- shifts of the band's two ends lose no bit
shifted : (a i l : ℕ) → a < 16 → i < 29 → l ≤ 4 → a * 2 ^ (i + l) % 2 ^ 64 ≡ a * 2 ^ (i + l)
shifted a i l h j k =
    let e : i + l ≤ 32 = omega arith in
    let f : a ≤ 16 = omega arith in
    let q : a * 2 ^ (i + l) ≤ 16 * 2 ^ 32 = mul-le-mul f (pow_mono e) in
    mod-eq_of_lt (omega (arith, q))

pub band_shifted : (l : ℕ) {low high : ℕ} → l ≤ 4 → (l ≡ 0 → low ≡ 0) → ((l ≡ 0 → ⊥) → low ≡ 15 * 2 ^ (23 + l) % 2 ^ 64) → high ≡ 1 * 2 ^ (28 + l) % 2 ^ 64
    → ◌≡◌ {A = Band} (record { low = low; high = high }) (band_of l)
unfolding band_of
band_shifted l {low} {high} h rest other end = go (ℕ_discrete l 0)
  where
    top : high ≡ 2 ^ (28 + l)
    top = end ∙ shifted 1 28 l (omega arith) (omega arith) h ∙ omega arith

    go : Dec (l ≡ 0) → ◌≡◌ {A = Band} (record { low = low; high = high }) (record { low = cond (eqb l 0) 0 (15 * 2 ^ (23 + l)); high = 2 ^ (28 + l) })
    go (yes z) = rw (eq-eqb l 0 z) (ap₂ (λ (a b : ℕ). record { low = a; high = b }) (rest z) top)
    go (no n) = rw (ne_eqb l 0 n) (ap₂ (λ (a b : ℕ). record { low = a; high = b }) (other n ∙ shifted 15 23 l (omega arith) (omega arith) h) top)

pub band_high : (l R : ℕ) → in_band (band_of l) R ≡ true → R < 2 ^ (28 + l)
unfolding band_of
band_high l R h = ltb-true R (2 ^ (28 + l)) (&&-right _ (ltb R (2 ^ (28 + l))) h)

-- below the current level the upper end is not reached, and from it on the lower one does not matter
pub band_asked : (l R : ℕ) → l ≤ 4 → asked_level l R ≡ cond (in_band (band_of l) R) l (octave_level R)
unfolding asked_level band_of
band_asked l R h = go (dec_lt (octave_level R) l)
  where
    low : octave_level R < l → R < 2 ^ (28 + l)
    low p = let i : 28 + octave_level R ≤ 28 + l = omega arith in lt_of_lt_of_le (octave_high R (omega arith)) (pow_mono i)

    above : (b : Bool) → in_band (band_of l) R ≡ b → (octave_level R < l → ⊥) → octave_level R ≡ cond b l (octave_level R)
    above true e p = omega (arith, octave-≤ R l (band_high l R e))
    above false e p = refl

    go : Dec (octave_level R < l) → cond (ltb (octave_level R) l && stays_down l R) l (octave_level R) ≡ cond (in_band (band_of l) R) l (octave_level R)
    go (yes p) = simp (lt-ltb (octave_level R) l p, ne_eqb l 0 (λ z. omega arith), sixteenths, lt-ltb R (2 ^ (28 + l)) (low p), &&-true)
    go (no p) = simp (le-ltb (octave_level R) l (omega arith)) (above (in_band (band_of l) R) refl p)

pub band_stays : (l R : ℕ) → l ≤ 4 → in_band (band_of l) R ≡ true → asked_level l R ≡ l
band_stays l R h e = band_asked l R h ∙ ap (λ b. cond b l (octave_level R)) e

pub ≤-either : (b : Bool) {m n k : ℕ} → m ≤ k → n ≤ k → cond b m n ≤ k
≤-either true h l = h
≤-either false h l = l

pub asked-≤ : (l R top : ℕ) → l ≤ top → R < 2 ^ (28 + top) → asked_level l R ≤ top
unfolding asked_level
asked-≤ l R top h u = ≤-either (ltb (octave_level R) l && stays_down l R) h (octave-≤ R top u)
