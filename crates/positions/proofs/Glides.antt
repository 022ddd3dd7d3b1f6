-- The laws of a quotient with its rest, and of a glide's place: the sum of two quotients, and the place after one output more. Assumes nothing.
use mathlib.Core.Path.{◌≡◌, refl, sym, ap, ◌∙◌}
use Prim.Native.Nat.{ℕ, suc, ◌+◌, ◌*◌, ◌/◌, ◌^◌, ◌≤◌, ◌<◌}
use native.Mathlib.Nat.{le_trans, mul-le-mul_left, add-zero, add-suc}
use native.Mathlib.Decide.{ℕ_discrete}
use native.Mathlib.Omega.{arith}
use borrow.Author.Tests.{eq-eqb, ne_eqb}
use lib.Dec.{T, eqb}
use lib.IntN.{ℤ, pos, neg_ℤ, nat_abs, ◌+ℤ◌, ◌-ℤ◌, ◌*ℤ◌}
use lib.Signed.{non_neg, ◌≤ℤ◌, ◌<ℤ◌}
use mir.Syntax.{w64}
use mir.Val.{SFits}
use lib.Pow.{pow_mono}
use Rattle.arith.specs.Floor.{floor_div}
use Rattle.arith.proofs.Linear.{linear}
use Rattle.arith.proofs.Integers.{≤ℤ-trans, pos-≤ℤ, abs-≤, abs_above, abs_fits, abs_triangle, abs-*-≤, <ℤ-≤ℤ, *ℤ-≤ℤ-pos, *ℤ-<ℤ-cancel}
use Rattle.arith.proofs.Floor.{floor-≤, floor-<, floor-+}
use Rattle.control.specs.declared.Glide.{Glide}
use Rattle.control.specs.declared.Control.{Control}
use Rattle.control.specs.declared.Fade.{Fade}
use Rattle.positions.specs.declared.glide.Quotient.{Quotient}
use Rattle.control.specs.Moves.{glide_rate, glide_after, move_glide}
use Rattle.control.specs.Valid.{GlideValid, Valid}
use Rattle.positions.specs.Inner.{GlideFits, ControlFits, RatesOf, quotient, glide_sum, left_of, rate_at, glide_at, control_at}
use Rattle.control.proofs.Kept.{either, glide-is, glide_high}

-- ---- a quotient and its rest

module _ (z : ℤ) {c : ℕ} (h : 0 < c) where
  pub rest_is : pos (quotient z c).rest ≡ z -ℤ pos c *ℤ (quotient z c).floor
  unfolding quotient
  rest_is = sym (abs_above (simp linear (omega (arith, simp linear at (floor-≤ z h)))))

  floor_is : (quotient z c).floor ≡ floor_div z c
  unfolding quotient
  floor_is = refl

  pub rest_high : (quotient z c).rest < c
  rest_high = let e = rw floor_is at rest_is in omega (arith, simp linear at e, simp linear at (floor-< z h))

-- ---- a sum that goes up by a slope which is rounded up, in 2^-23

module _ (c i rest R : ℕ) (F u S W M : ℤ) (some : 0 < c) (few : c ≤ 65536) (near : i ≤ 64)
    (u-low : (pos (2 ^ 23) *ℤ pos rest) ≤ℤ (pos c *ℤ u)) (u-high : (pos c *ℤ u) <ℤ (pos (2 ^ 23) *ℤ pos rest +ℤ pos c))
    (S-low : (pos (2 ^ 23) *ℤ W) ≤ℤ (pos c *ℤ S)) (S-high : (pos c *ℤ S) <ℤ (pos (2 ^ 23) *ℤ W +ℤ pos c))
    (M-is : M ≡ pos c *ℤ F +ℤ pos rest +ℤ W *ℤ pos i) (M-low : (pos c *ℤ pos R) ≤ℤ M) (M-high : M <ℤ (pos c *ℤ pos R +ℤ pos c)) where
  abbrev v : ℤ
  v = pos (2 ^ 23) *ℤ F +ℤ u +ℤ S *ℤ pos i

  pub sloped_low : pos (2 ^ 23 * R) ≤ℤ v
  sloped_low =
      let s = *ℤ-≤ℤ-pos i S-low in
      let l : (pos c *ℤ pos (2 ^ 23 * R)) <ℤ (pos c *ℤ (v +ℤ pos 1)) = simp linear (omega (arith, simp linear at s, simp linear at u-low, simp linear at M-is, simp linear at M-low)) in
      let k : pos (2 ^ 23 * R) <ℤ (v +ℤ pos 1) = *ℤ-<ℤ-cancel c l in
      simp linear (omega (arith, simp linear at k))

  pub sloped_high : v <ℤ pos (2 ^ 23 * R + 2 ^ 23)
  sloped_high =
      let s = *ℤ-≤ℤ-pos i (<ℤ-≤ℤ S-high) in
      let n : c * i ≤ c * 64 = mul-le-mul_left c near in
      *ℤ-<ℤ-cancel c (simp linear (omega (arith, n, simp linear at s, simp linear at u-high, simp linear at M-is, simp linear at M-high)))

-- the slope is the difference of two rates
slope_small : (x S : ℤ) (m n : ℕ) → pos (2 ^ 23 * m) ≤ℤ (x +ℤ S *ℤ pos 0) → (x +ℤ S *ℤ pos 0) <ℤ pos (2 ^ 23 * m + 2 ^ 23) → pos (2 ^ 23 * n) ≤ℤ (x +ℤ S *ℤ pos 1) → (x +ℤ S *ℤ pos 1) <ℤ pos (2 ^ 23 * n + 2 ^ 23)
    → m ≤ 2 ^ 32 → n ≤ 2 ^ 32 → ((x ≤ℤ pos (2 ^ 56)) × (neg_ℤ (pos (2 ^ 56)) ≤ℤ x)) × ((S ≤ℤ pos (2 ^ 56)) × (neg_ℤ (pos (2 ^ 56)) ≤ℤ S))
slope_small x S m n = simp linear (omega arith)

-- ---- a glide's place

module _ (g : Glide) (fits : GlideFits g) where
  pub some : 0 < g.count
  some = omega (arith, fits.done_high)

  abbrev way : ℤ
  way = pos g.target -ℤ pos g.start

  pub way_high : nat_abs way ≤ 2 ^ 32
  way_high = abs-≤ way (simp linear (omega (arith, fits.start_high, fits.target_high)))

  -- every number on the way fits
  pub start_product : nat_abs (pos g.start *ℤ pos g.count) ≤ 2 ^ 48
  start_product = omega (arith, abs-*-≤ (pos g.start) (pos g.count) {m = 2 ^ 32} {n = 65536} (omega (arith, fits.start_high)) fits.count_high)

  pub way_product : (j : ℕ) → j ≤ g.count → nat_abs (way *ℤ pos j) ≤ 2 ^ 48
  way_product j l = omega (arith, abs-*-≤ way (pos j) {m = 2 ^ 32} {n = 65536} way_high (omega (arith, fits.count_high)))

  pub sum_high : (j : ℕ) → j ≤ g.count → nat_abs (glide_sum g j) ≤ 2 ^ 50
  unfolding glide_sum
  sum_high j l = omega (arith, abs_triangle (pos g.start *ℤ pos g.count) (way *ℤ pos j), start_product, way_product j l)

  -- its floor is the rate
  pub rate-at : (j : ℕ) → j ≤ g.count → (quotient (glide_sum g j) g.count).floor ≡ pos (glide_rate g j)
  unfolding quotient glide_sum
  rate-at j l =
      let w = way *ℤ pos j in
      let e : pos g.start *ℤ pos g.count +ℤ w ≡ w +ℤ pos g.count *ℤ pos g.start = simp linear (omega arith) in
      let f : floor_div w g.count +ℤ pos g.start ≡ pos g.start +ℤ floor_div w g.count = simp linear (omega arith) in
      ap (λ z. floor_div z g.count) e ∙ floor-+ w (pos g.start) some ∙ f ∙ glide-is g j some l

  pub rate_high : (j : ℕ) → j ≤ g.count → glide_rate g j ≤ 2 ^ 32
  rate_high j l = glide_high g j some l (2 ^ 32) (omega (arith, fits.start_high)) (omega (arith, fits.target_high))

  -- i outputs more
  sum_plus : (j i : ℕ) → glide_sum g (j + i) ≡ glide_sum g j +ℤ way *ℤ pos i
  unfolding glide_sum
  sum_plus j i = simp linear (omega arith)

-- a valid glide's rates are below 2^32
pub valid_glide_fits : {T : ℕ} {g : Glide} → T ≤ 4 → GlideValid T g → GlideFits g
valid_glide_fits {T} h r =
    let p : 2 ^ (28 + T) ≤ 2 ^ 32 = pow_mono {i = 28 + T} {j = 32} (omega arith) in
    record {
      start_high = le_trans r.start_high p;
      target_high = le_trans r.target_high p;
      count_high = r.count_high;
      done_high = r.done_high;
    }

-- ---- rates along a run

module _ (c : Control) where
  pub still_rate : c.glide.count ≡ 0 → (i : ℕ) → rate_at c i ≡ c.rate
  unfolding rate_at
  still_rate z i = rw (eq-eqb c.glide.count 0 z)

  glide_rate_lem : (c.glide.count ≡ 0 → ⊥) → (i : ℕ) → rate_at c i ≡ glide_rate c.glide (c.glide.done + i)
  unfolding rate_at
  glide_rate_lem n i = rw (ne_eqb c.glide.count 0 n)

  -- R, in 2^-23
  pub still_rates : c.glide.count ≡ 0 → c.rate < 2 ^ 32 → RatesOf c (pos (2 ^ 23) *ℤ pos c.rate) (pos 0)
  still_rates z h = record {
    start_size = simp linear (omega arith);
    slope_size = omega arith;
    low = λ i l n. rw (still_rate z i) (simp linear (omega arith));
    high = λ i l n. rw (still_rate z i) (simp linear (omega arith));
  }

  -- along a glide: the floor and the rest of its place, and the slope, in 2^-23
  module _ (n : c.glide.count ≡ 0 → ⊥) (fits : GlideFits c.glide) {p : Quotient} (p-is : p ≡ quotient (glide_sum c.glide c.glide.done) c.glide.count) (u S : ℤ)
      (u-low : (pos (2 ^ 23) *ℤ pos p.rest) ≤ℤ (pos c.glide.count *ℤ u)) (u-high : (pos c.glide.count *ℤ u) <ℤ (pos (2 ^ 23) *ℤ pos p.rest +ℤ pos c.glide.count))
      (S-low : (pos (2 ^ 23) *ℤ way c.glide fits) ≤ℤ (pos c.glide.count *ℤ S)) (S-high : (pos c.glide.count *ℤ S) <ℤ (pos (2 ^ 23) *ℤ way c.glide fits +ℤ pos c.glide.count)) where
    abbrev g : Glide
    g = c.glide

    sum_is : (i : ℕ) → glide_sum g (g.done + i) ≡ pos g.count *ℤ p.floor +ℤ pos p.rest +ℤ way g fits *ℤ pos i
    sum_is i =
        let e : pos p.rest ≡ glide_sum g g.done -ℤ pos g.count *ℤ p.floor = rw p-is (rest_is (glide_sum g g.done) (some g fits)) in
        let f : glide_sum g g.done ≡ pos g.count *ℤ p.floor +ℤ pos p.rest = simp linear (omega (arith, simp linear at e)) in
        sum_plus g fits g.done i ∙ ap (λ z. z +ℤ way g fits *ℤ pos i) f

    floor-rate : (i : ℕ) → g.done + i ≤ g.count → floor_div (glide_sum g (g.done + i)) g.count ≡ pos (rate_at c i)
    floor-rate i l = sym (floor_is (glide_sum g (g.done + i)) (some g fits)) ∙ rate-at g fits (g.done + i) l ∙ ap pos (sym (glide_rate_lem n i))

    at_low : (i : ℕ) → i ≤ 64 → g.done + i ≤ g.count → pos (2 ^ 23 * rate_at c i) ≤ℤ (pos (2 ^ 23) *ℤ p.floor +ℤ u +ℤ S *ℤ pos i)
    at_low i k l =
        let M = glide_sum g (g.done + i) in
        sloped_low g.count i p.rest (rate_at c i) p.floor u S (way g fits) M (some g fits) fits.count_high k u-low u-high S-low S-high (sum_is i)
        (rw (floor-rate i l) at (floor-≤ M (some g fits)))
        (rw (floor-rate i l) at (floor-< M (some g fits)))

    at_high : (i : ℕ) → i ≤ 64 → g.done + i ≤ g.count → (pos (2 ^ 23) *ℤ p.floor +ℤ u +ℤ S *ℤ pos i) <ℤ pos (2 ^ 23 * rate_at c i + 2 ^ 23)
    at_high i k l =
        let M = glide_sum g (g.done + i) in
        sloped_high g.count i p.rest (rate_at c i) p.floor u S (way g fits) M (some g fits) fits.count_high k u-low u-high S-low S-high (sum_is i)
        (rw (floor-rate i l) at (floor-≤ M (some g fits)))
        (rw (floor-rate i l) at (floor-< M (some g fits)))

    at-rate : (i : ℕ) → g.done + i ≤ g.count → rate_at c i ≤ 2 ^ 32
    at-rate i l = rw (glide_rate_lem n i) (rate_high g fits (g.done + i) l)

    pub glide_rates : RatesOf c (pos (2 ^ 23) *ℤ p.floor +ℤ u) S
    glide_rates =
        let z : g.done + 0 ≤ g.count = omega (arith, fits.done_high) in
        let o : g.done + 1 ≤ g.count = omega (arith, fits.done_high) in
        let small = slope_small (pos (2 ^ 23) *ℤ p.floor +ℤ u) S (rate_at c 0) (rate_at c 1) (at_low 0 (omega arith) z) (at_high 0 (omega arith) z) (at_low 1 (omega arith) o) (at_high 1 (omega arith) o) (at-rate 0 z) (at-rate 1 o) in
        record {
          start_size = abs-≤ (pos (2 ^ 23) *ℤ p.floor +ℤ u) small.0;
          slope_size = abs-≤ S small.1;
          low = λ i k l. at_low i k (l n);
          high = λ i k l. at_high i k (l n);
        }

-- the numbers of an output of the run
module _ {c : Control} {a b : ℤ} (r : RatesOf c a b) (i : ℕ) (near : i ≤ 64) (left : left_of c.glide i) where
  low : (pos (2 ^ 23 * rate_at c i)) ≤ℤ (a +ℤ b *ℤ pos i)
  low = r.low i near left

  product_size : nat_abs (b *ℤ pos i) ≤ 2 ^ 62
  product_size = omega (arith, abs-*-≤ b (pos i) {m = 2 ^ 56} {n = 64} r.slope_size near)

  sum_size : nat_abs (a +ℤ b *ℤ pos i) < 2 ^ 63
  sum_size = omega (arith, abs_triangle a (b *ℤ pos i), product_size, r.start_size)

  pub start_fits : SFits w64 a
  start_fits = abs_fits w64 a (omega (arith, r.start_size))

  pub slope_fits : SFits w64 b
  slope_fits = abs_fits w64 b (omega (arith, r.slope_size))

  pub along-fits : SFits w64 (b *ℤ pos i)
  along-fits = abs_fits w64 (b *ℤ pos i) (omega (arith, product_size))

  pub here_fits : SFits w64 (a +ℤ b *ℤ pos i)
  here_fits = abs_fits w64 (a +ℤ b *ℤ pos i) sum_size

  pub here_low : T (non_neg (a +ℤ b *ℤ pos i))
  here_low = simp linear (omega (arith, simp linear at low))

  pub here_size : nat_abs (a +ℤ b *ℤ pos i) < 2 ^ 64
  here_size = omega (arith, sum_size)

  pub rate_here : nat_abs (a +ℤ b *ℤ pos i) / 2 ^ 23 ≡ rate_at c i
  rate_here =
      let R : ℕ = rate_at c i in
      let v : ℤ = a +ℤ b *ℤ pos i in
      let high = r.high i near left in
      let l : 2 ^ 23 * R ≤ nat_abs v = simp linear (omega (arith, simp linear at low)) in
      let h : nat_abs v < 2 ^ 23 * R + 2 ^ 23 = simp linear (omega (arith, simp linear at low, simp linear at high)) in
      omega (arith, l, h)

-- ---- the control along a run

pub control_fits : {F : ℕ} {c : Control} → Valid F c → ControlFits c
control_fits {c = c} s =
    let p : 2 ^ (28 + c.top) ≤ 2 ^ 32 = pow_mono {i = 28 + c.top} {j = 32} (omega (arith, s.top_high)) in
    record { rate_high = le_trans s.rate_high p; glide_fits = λ n. valid_glide_fits s.top_high (s.glide_valid n) }

pub rate_at_high : {c : Control} → ControlFits c → (i : ℕ) → left_of c.glide i → rate_at c i ≤ 2 ^ 32
rate_at_high {c} f i l = go (ℕ_discrete c.glide.count 0)
  where
    go : Dec (c.glide.count ≡ 0) → rate_at c i ≤ 2 ^ 32
    go (yes z) = rw (still_rate c z i) (omega (arith, f.rate_high))
    go (no n) = rw (glide_rate_lem c n i) (rate_high c.glide (f.glide_fits n) (c.glide.done + i) (l n))

-- after no output
glide_none : (g : Glide) → ((g.count ≡ 0 → ⊥) → GlideFits g) → glide_at g 0 ≡ g
unfolding glide_at glide_after
glide_none g f = go (ℕ_discrete g.count 0)
  where
    go : Dec (g.count ≡ 0) → glide_at g 0 ≡ g
    go (yes z) = rw (eq-eqb g.count 0 z)
    go (no n) = rw (ne_eqb g.count 0 n, add-zero g.done, ne_eqb g.done g.count (λ e. absurd (omega (arith, (f n).done_high))))

pub control_none : {c : Control} → ControlFits c → control_at c c.fade 0 c.position ≡ c
unfolding control_at
control_none {c} f = ap (λ (g : Glide). record { top = c.top; fade = c.fade; rate = c.rate; glide = g; position = c.position }) (glide_none c.glide f.glide_fits)

-- after some outputs
pub control_some : (c : Control) (f : Fade) (i P : ℕ) → control_at c f (suc i) P ≡ record { top = c.top; fade = f; rate = rate_at c (suc i); glide = glide_at c.glide (suc i); position = P }
unfolding control_at
control_some c f i P = simp (ne_eqb (suc i) 0 (λ e. absurd (omega arith)))

-- one output more, before its points
pub control_next : (c : Control) (f : Fade) (i P : ℕ) → left_of c.glide (suc i) → control_at c f (suc i) P ≡ move_glide (control_at c f i P)
unfolding control_at glide_at rate_at move_glide glide_after glide_rate
control_next c f i P left = control_some c f i P ∙ go (ℕ_discrete c.glide.count 0)
  where
    go : Dec (c.glide.count ≡ 0) → record { top = c.top; fade = f; rate = rate_at c (suc i); glide = glide_at c.glide (suc i); position = P } ≡ move_glide (control_at c f i P)
    go (yes z) = simp (eq-eqb c.glide.count 0 z, either (λ (R : ℕ). R) (eqb i 0) c.rate c.rate refl)
    go (no n) =
        let l = left n in
        simp (ne_eqb c.glide.count 0 n, add-suc, ne_eqb (c.glide.done + i) c.glide.count (λ e. absurd (omega arith)))

-- before the first output's points
pub left_one : {c : Control} → ControlFits c → left_of c.glide 1
left_one f n = omega (arith, (f.glide_fits n).done_high)

pub control_first : {c : Control} → ControlFits c → move_glide c ≡ record { top = c.top; fade = c.fade; rate = rate_at c 1; glide = glide_at c.glide 1; position = c.position }
control_first {c} f = ap move_glide (sym (control_none f)) ∙ sym (control_next c c.fade 0 c.position (left_one f)) ∙ control_some c c.fade 0 c.position
