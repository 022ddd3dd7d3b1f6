-- Glides, points and outputs keep a control valid, and so do another rate in range, glide and position. Assumes nothing.
use mathlib.Core.Path.{◌≡◌, refl, ◌∙◌}
use mathlib.Core.Bool.{Bool, true, false, cond}
use Prim.Native.Nat.{ℕ, suc, ◌+◌, ◌-◌, ◌^◌, ◌≤◌, ◌<◌}
use native.Mathlib.Nat.{min-le_right, mul-le-mul_right}
use native.Mathlib.Decide.{ℕ_discrete}
use native.Mathlib.Omega.{arith}
use borrow.Author.Tests.{eq-eqb, ne_eqb}
use lib.Dec.{eqb}
use lib.IntN.{ℤ, pos, ◌+ℤ◌, ◌-ℤ◌, ◌*ℤ◌}
use lib.Signed.{◌≤ℤ◌}
use Rattle.arith.specs.Floor.{floor_div}
use Rattle.arith.proofs.Linear.{linear}
use Rattle.arith.proofs.Integers.{abs_above}
use Rattle.arith.proofs.Floor.{floor_mono, floor_unique}
use Rattle.control.specs.declared.Glide.{Glide}
use Rattle.control.specs.declared.Fade.{Fade}
use Rattle.control.specs.declared.Control.{Control}
use Rattle.control.specs.Rate.{advance}
use Rattle.control.specs.Moves.{glide_after, no_fade, glide_rate, move_glide, fade_target, point_plan, fade_after, move_point, move_output}
use Rattle.control.proofs.Bands.{≤-either, asked-≤}
use Rattle.control.specs.Valid.{GlideValid, Valid}

-- with another rate in range, glide and position
pub moved_valid : {F : ℕ} {c : Control} → Valid F c → (R : ℕ) → 2 ^ 23 ≤ R → R < 2 ^ (28 + c.top) → (g : Glide) → ((g.count ≡ 0 → ⊥) → GlideValid c.top g) → (P : ℕ) → P ≤ 2 ^ 60 → Valid F (record { top = c.top; fade = c.fade; rate = R; glide = g; position = P })
moved_valid s R low high g glide P position = record {
  top_high = s.top_high;
  from_high = s.from_high;
  to_high = s.to_high;
  step_low = s.step_low;
  resting = s.resting;
  fading = s.fading;
  rate_low = low;
  rate_high = high;
  glide_valid = glide;
  position_high = position;
}

-- ---- the glide

-- of a whole number of divisors
floor_multiple : (q : ℤ) {b : ℕ} → 0 < b → floor_div (pos b *ℤ q) b ≡ q
floor_multiple q {b} h = floor_unique (pos b *ℤ q) h (simp linear (omega arith)) (simp linear (omega arith))

-- a + ⌊(b − a) × j / (x + j)⌋ lies where a and b lie, the mean of which it is
module _ (a b x j : ℕ) (h : 0 < x + j) where
  pub mean_low : (lo : ℕ) → lo ≤ a → lo ≤ b → pos lo ≤ℤ (pos a +ℤ floor_div ((pos b -ℤ pos a) *ℤ pos j) (x + j))
  mean_low lo p q =
      let l : (pos (x + j) *ℤ (pos lo -ℤ pos a)) ≤ℤ ((pos b -ℤ pos a) *ℤ pos j) = simp linear (omega (arith, mul-le-mul_right x p, mul-le-mul_right j q)) in
      let m = floor_mono h l in
      let n = rw (floor_multiple (pos lo -ℤ pos a) h) at m in
      simp linear (omega (arith, simp linear at n))

  mean_high : (hi : ℕ) → a ≤ hi → b ≤ hi → (pos a +ℤ floor_div ((pos b -ℤ pos a) *ℤ pos j) (x + j)) ≤ℤ pos hi
  mean_high hi p q =
      let l : ((pos b -ℤ pos a) *ℤ pos j) ≤ℤ (pos (x + j) *ℤ (pos hi -ℤ pos a)) = simp linear (omega (arith, mul-le-mul_right x p, mul-le-mul_right j q)) in
      let m = floor_mono h l in
      let n = rw (floor_multiple (pos hi -ℤ pos a) h) at m in
      simp linear (omega (arith, simp linear at n))

-- a glide's rates lie where R0 and R1 lie
module _ (g : Glide) (j : ℕ) (some : 0 < g.count) (within : j ≤ g.count) where
  pub glide-is : pos g.start +ℤ floor_div ((pos g.target -ℤ pos g.start) *ℤ pos j) g.count ≡ pos (glide_rate g j)
  unfolding glide_rate
  glide-is =
      let e : g.count - j + j ≡ g.count = omega arith in
      abs_above (rw e at (mean_low g.start g.target (g.count - j) j (omega arith) 0 (omega arith) (omega arith)))

  pub glide_low : (lo : ℕ) → lo ≤ g.start → lo ≤ g.target → lo ≤ glide_rate g j
  unfolding glide_rate
  glide_low lo p q =
      let e : g.count - j + j ≡ g.count = omega arith in
      let m = rw e at (mean_low g.start g.target (g.count - j) j (omega arith) lo p q) in
      simp linear (omega (arith, simp linear at m))

  pub glide_high : (hi : ℕ) → g.start ≤ hi → g.target ≤ hi → glide_rate g j ≤ hi
  unfolding glide_rate
  glide_high hi p q =
      let e : g.count - j + j ≡ g.count = omega arith in
      let l = rw e at (mean_low g.start g.target (g.count - j) j (omega arith) 0 (omega arith) (omega arith)) in
      let m = rw e at (mean_high g.start g.target (g.count - j) j (omega arith) hi p q) in
      simp linear (omega (arith, simp linear at l, simp linear at m))

-- its last output leaves none, and any other has an output left
next_glide_valid : {T : ℕ} {g : Glide} → GlideValid T g → ((glide_after g (suc g.done)).count ≡ 0 → ⊥) → GlideValid T (glide_after g (suc g.done))
unfolding glide_after
next_glide_valid {T} {g} r = go (ℕ_discrete (suc g.done) g.count)
  where
    go : Dec (suc g.done ≡ g.count) → ((glide_after g (suc g.done)).count ≡ 0 → ⊥) → GlideValid T (glide_after g (suc g.done))
    go (yes e) = rw (eq-eqb (suc g.done) g.count e) (λ n. absurd (n refl))
    go (no e) = rw (ne_eqb (suc g.done) g.count e) (λ n. record {
      start_low = r.start_low;
      start_high = r.start_high;
      target_low = r.target_low;
      target_high = r.target_high;
      count_high = r.count_high;
      done_high = omega (arith, r.done_high);
    })

-- what either of two has alike
pub either : {A B : Type 0} (field : A → B) (b : Bool) (c d : A) → field d ≡ field c → field (cond b c d) ≡ field c
either field true c d e = refl
either field false c d e = e

pub move_glide_top : (c : Control) → (move_glide c).top ≡ c.top
unfolding move_glide
move_glide_top c = either (λ d. d.top) (eqb c.glide.count 0) c _ refl

-- the new rate lies where both ends of the glide lie
pub move_glide_valid : {F : ℕ} {c : Control} → Valid F c → Valid F (move_glide c)
unfolding move_glide
move_glide_valid {F} {c} s = go (ℕ_discrete c.glide.count 0)
  where
    go : Dec (c.glide.count ≡ 0) → Valid F (move_glide c)
    go (yes z) = rw (eq-eqb c.glide.count 0 z) s
    go (no z) =
        let g = c.glide in
        let j = suc g.done in
        let r = s.glide_valid z in
        let low = glide_low g j (omega arith) r.done_high (2 ^ 23) r.start_low r.target_low in
        let high = glide_high g j (omega arith) r.done_high (2 ^ (28 + c.top) - 1) (omega (arith, r.start_high)) (omega (arith, r.target_high)) in
        rw (ne_eqb g.count 0 z) (moved_valid s (glide_rate g j) low (omega (arith, r.start_high, high)) (glide_after g j) (next_glide_valid r) c.position s.position_high)

-- ---- points

-- what a point reads lies in range: levels 0..T, i up to F, P up to 2^60
module _ {F : ℕ} {c : Control} (s : Valid F c) where
  pub plan_old : (point_plan c).old ≤ c.top
  unfolding point_plan
  plan_old = s.from_high

  pub plan_new : (point_plan c).new ≤ c.top
  unfolding point_plan fade_target
  plan_new = ≤-either (eqb c.fade.step 0) (asked-≤ c.fade.from c.rate c.top s.from_high s.rate_high) s.to_high

  pub plan_step : (point_plan c).step ≤ F
  unfolding point_plan
  plan_step = ≤-either (eqb c.fade.from (fade_target c)) (omega arith) s.step_low

  pub plan_position : (point_plan c).position ≤ 2 ^ 60
  unfolding point_plan
  plan_position = s.position_high

-- i is 0 where both levels are the same, and only there
module _ (c : Control) where
  plan_rests : (point_plan c).step ≡ 0 → (point_plan c).old ≡ (point_plan c).new
  unfolding point_plan
  plan_rests = go (ℕ_discrete c.fade.from (fade_target c))
    where
      go : Dec (c.fade.from ≡ fade_target c) → (point_plan c).step ≡ 0 → c.fade.from ≡ fade_target c
      go (yes e) = λ z. e
      go (no e) = rw (ne_eqb c.fade.from (fade_target c) e) (λ z. absurd (omega arith))

  plan_fades : ((point_plan c).step ≡ 0 → ⊥) → (point_plan c).old ≡ (point_plan c).new → ⊥
  unfolding point_plan
  plan_fades n e = n (rw (eq-eqb c.fade.from (fade_target c) e))

pub move_point_top : (F : ℕ) (c : Control) → (move_point F c).top ≡ c.top
unfolding move_point
move_point_top F c = refl

-- a fade that has reached F is at rest on its new level; F is above 0, since i is below it
pub move_point_valid : {F : ℕ} {c : Control} → Valid F c → Valid F (move_point F c)
unfolding move_point fade_after advance
move_point_valid {F} {c} s = go (ℕ_discrete (point_plan c).step F)
  where
    after : (f : Fade) → f.from ≤ c.top → f.to ≤ c.top → f.step < F → (f.step ≡ 0 → f.from ≡ f.to) → ((f.step ≡ 0 → ⊥) → f.from ≡ f.to → ⊥) → Valid F (record { top = c.top; fade = f; rate = c.rate; glide = c.glide; position = advance c.position c.rate })
    after f from to step resting fading = record {
      top_high = s.top_high;
      from_high = from;
      to_high = to;
      step_low = step;
      resting = resting;
      fading = fading;
      rate_low = s.rate_low;
      rate_high = s.rate_high;
      glide_valid = s.glide_valid;
      position_high = min-le_right (c.position + c.rate) (2 ^ 60);
    }

    go : Dec ((point_plan c).step ≡ F) → Valid F (move_point F c)
    go (yes e) = rw (eq-eqb (point_plan c).step F e) (after (no_fade (point_plan c).new) (plan_new s) (plan_new s) (omega (arith, s.step_low)) (λ z. refl) (λ n. absurd (n refl)))
    go (no e) = rw (ne_eqb (point_plan c).step F e) (after _ (plan_old s) (plan_new s) (omega (arith, plan_step s)) (plan_rests c) (plan_fades c))

-- ---- outputs

pub move_output_top : (F : ℕ) (c : Control) → (move_output F c).top ≡ c.top
unfolding move_output
move_output_top F c = move_point_top F (move_point F (move_glide c)) ∙ move_point_top F (move_glide c) ∙ move_glide_top c

pub move_output_valid : {F : ℕ} {c : Control} → Valid F c → Valid F (move_output F c)
unfolding move_output
move_output_valid s = move_point_valid (move_point_valid (move_glide_valid s))
