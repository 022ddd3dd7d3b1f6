-- The laws of the plans along a run: the plan of its next point, and the fade after some outputs. Assumes nothing.
use mathlib.Core.Path.{◌≡◌, refl, sym, ap, ◌∙◌}
use mathlib.Core.Bool.{cond}
use Prim.Native.Nat.{ℕ, suc, ◌+◌, ◌-◌, ◌*◌, ◌≤◌, ◌<◌}
use native.Mathlib.Nat.{add-zero}
use native.Mathlib.Decide.{ℕ_discrete}
use native.Mathlib.Omega.{arith}
use borrow.Author.Tests.{eq-eqb, ne_eqb}
use lib.Dec.{eqb}
use Rattle.control.specs.declared.Control.{Control}
use Rattle.control.specs.declared.Fade.{Fade}
use Rattle.control.specs.declared.Plan.{Plan}
use Rattle.control.specs.Rate.{asked_level}
use Rattle.control.specs.Moves.{fade_target, point_plan, fade_after}
use Rattle.control.specs.Valid.{Valid}
use Rattle.positions.specs.Runs.{run_plan}

-- a plan with another step and position
abbrev with : Plan → ℕ → ℕ → Plan
with p step P = record { old = p.old; new = p.new; step = step; position = P }

pub plan_still : (p : Plan) (k P : ℕ) → p.step ≡ 0 → run_plan p k P ≡ record { old = p.old; new = p.new; step = 0; position = P }
plan_still p k P z = let e : cond (eqb p.step 0) 0 (p.step + k) ≡ 0 = rw (eq-eqb p.step 0 z) in ap (λ n. with p n P) e

pub plan_fading : (p : Plan) (k P : ℕ) → (p.step ≡ 0 → ⊥) → run_plan p k P ≡ record { old = p.old; new = p.new; step = p.step + k; position = P }
plan_fading p k P n = let e : cond (eqb p.step 0) 0 (p.step + k) ≡ p.step + k = rw (ne_eqb p.step 0 n) in ap (λ m. with p m P) e

-- the first point's
pub plan_none : (p : Plan) → run_plan p 0 p.position ≡ p
plan_none p = go (ℕ_discrete p.step 0)
  where
    go : Dec (p.step ≡ 0) → run_plan p 0 p.position ≡ p
    go (yes z) = plan_still p 0 p.position z ∙ ap (λ m. with p m p.position) (sym z)
    go (no n) = plan_fading p 0 p.position n ∙ ap (λ m. with p m p.position) (add-zero p.step)

-- the fade after i outputs: after none it is as it was
unfoldable pub fade_at : ℕ → Fade → Plan → ℕ → Fade
fade_at F f p i = cond (eqb i 0) f (fade_after F (run_plan p (2 * i - 1) 0))

pub fade_some : (F : ℕ) (f : Fade) (p : Plan) (i : ℕ) → (i ≡ 0 → ⊥) → fade_at F f p i ≡ fade_after F (run_plan p (2 * i - 1) 0)
unfolding fade_at
fade_some F f p i n = rw (ne_eqb i 0 n)

-- a point after point k of a run: without a fade the level stays at its rate, and a fade is not over
module _ {F : ℕ} {x : Control} (s : Valid F x) (p : Plan) (k : ℕ) (fade : x.fade ≡ fade_after F (run_plan p k 0))
    (stays : p.step ≡ 0 → asked_level p.old x.rate ≡ p.old) (inside : (p.step ≡ 0 → ⊥) → p.step + k < F) where
  abbrev next : Plan
  next = run_plan p (k + 1) x.position

  -- what a point's plan is made from
  planned : {f : Fade} → x.fade ≡ f → (t : ℕ) → cond (eqb f.step 0) (asked_level f.from x.rate) f.to ≡ t
      → point_plan x ≡ record { old = f.from; new = t; step = cond (eqb f.from t) 0 (suc f.step); position = x.position }
  unfolding point_plan fade_target
  planned e t g = simp (e, g)

  pub plan_next : 1 ≤ F → point_plan x ≡ next
  unfolding fade_after
  plan_next some = go (ℕ_discrete p.step 0)
    where
      go : Dec (p.step ≡ 0) → point_plan x ≡ next
      go (yes z) =
          let f : Fade = record { from = p.old; to = p.new; step = 0 } in
          let is : x.fade ≡ f = fade ∙ ap (fade_after F) (plan_still p k 0 z) ∙ simp (ne_eqb 0 F (λ e. absurd (omega arith))) in
          let same : p.old ≡ p.new = rw is at s.resting refl in
          planned is p.old (stays z) ∙ simp (eq-eqb p.old p.old refl) (ap (λ m. record { old = p.old; new = m; step = 0; position = x.position }) same) ∙ sym (plan_still p (k + 1) x.position z)
      go (no n) =
          let f : Fade = record { from = p.old; to = p.new; step = p.step + k } in
          let is : x.fade ≡ f = fade ∙ ap (fade_after F) (plan_fading p k 0 n) ∙ simp (ne_eqb (p.step + k) F (λ e. absurd (omega (arith, inside n)))) in
          let fades : p.step + k ≡ 0 → ⊥ = λ z. n (omega arith) in
          let differ : p.old ≡ p.new → ⊥ = rw is at s.fading fades in
          let more : suc (p.step + k) ≡ p.step + (k + 1) = omega arith in
          planned is p.new (simp (ne_eqb (p.step + k) 0 fades)) ∙ simp (ne_eqb p.old p.new differ) (ap (λ m. with p m x.position) more) ∙ sym (plan_fading p (k + 1) x.position n)
