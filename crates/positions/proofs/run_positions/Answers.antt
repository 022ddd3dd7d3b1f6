-- `positions::run_positions` meets its contract. Assumes nothing.
use mathlib.Core.Path.{◌≡◌, refl, sym, ap, subst, ◌∙◌}
use mathlib.Core.Bool.{true}
use Prim.Native.Nat.{ℕ, suc, ◌+◌, ◌-◌, ◌*◌, ◌^◌, ◌≤◌}
use native.Mathlib.Numerals.{add-one}
use native.Mathlib.Omega.{arith}
use lib.ListN.{length-set}
use Rattle.arith.proofs.Tests.{test_holds}
use Rattle.control.specs.declared.Control.{Control}
use Rattle.control.specs.declared.Fade.{Fade}
use Rattle.control.specs.declared.Plan.{Plan}
use Rattle.control.specs.Rate.{asked_level}
use Rattle.control.specs.Inner.{in_band}
use Rattle.control.specs.Moves.{move_glide, point_plan}
use Rattle.control.specs.Valid.{Valid}
use Rattle.control.proofs.Bands.{band_stays}
use Rattle.control.proofs.Kept.{move_glide_valid, move_glide_top, plan_old, plan_step}
use Rattle.positions.specs.Inner.{left_of, left_of_fade, rate_at, control_at}
use Rattle.positions.specs.Runs.{control_after, first_plan}
use Rattle.positions.proofs.Plans.{fade_at, fade_some}
use Rattle.positions.proofs.Along.{along_none, run_high, along-more}
use Rattle.positions.proofs.run_positions.Goals as goal
use Rattle.positions.proofs.run_positions.Goals.{After-way_told-1, else-loop-i-test, then-loop-i-test+then-not-in_band}

-- the plan of the first point
module _ {F : ℕ} {d : Control} {p : Plan} (valid : Valid F d) (is : p ≡ point_plan (move_glide d)) where
  first-is : p ≡ first_plan F d 0
  unfolding control_after
  first-is = is

  old_high : p.old ≤ 4
  old_high = omega (arith, ap (λ q. q.old) is, plan_old (move_glide_valid valid), move_glide_top d, valid.top_high)

  step_high : p.step ≤ F
  step_high = omega (arith, ap (λ q. q.step) is, plan_step (move_glide_valid valid))

  left_none : {q : Plan} {made : ℕ} → q ≡ p → made ≡ 0 → q.step + 2 * made ≤ F + 1
  left_none e z = omega (arith, ap (λ x. x.step) e, step_high)

-- after no output the control is as it was
none_made : (F : ℕ) (c : Control) {x : Control} {made : ℕ} → x ≡ c → made ≡ 0 → x ≡ control_after F c made
unfolding control_after
none_made F c e z = e ∙ ap (control_after F c) (sym z)

-- the plan is made of the control that the rates are of
plan_is : {c d : Control} {p : Plan} → d ≡ c → p ≡ point_plan (move_glide d) → p ≡ point_plan (move_glide c)
plan_is e is = is ∙ ap (λ x. point_plan (move_glide x)) e

pub run_band-stays-requires : goal.run_band-stays-requires
run_band-stays-requires c = old_high c.requires.control (plan_is c.rates_of-rates.ensures c.first_plan-plan.ensures)

pub run_limit-limit-requires-clause-fade : goal.run_limit-limit-requires-clause-fade
run_limit-limit-requires-clause-fade c = (step_high c.requires.control (plan_is c.rates_of-rates.ensures c.first_plan-plan.ensures), c.requires.in_range.2)

pub loop-i-init : goal.loop-i-init
loop-i-init c = record { length = omega arith; all = omega arith; along = along_none c.first_plan-plan.result c.args.positions.now c.requires.control }

-- what a turn knows where its rate leaves the level
module _ (c : After-way_told-1) where
  abbrev i : ℕ
  i = c.loop-i.i

  near : suc i ≤ 64
  near = omega (arith, c.loop-i-test.true, c.run_limit-limit.ensures.count, c.requires.in_range.0)

  glides : left_of c.args.c.glide (suc i)
  glides n = omega (arith, c.loop-i-test.true, c.run_limit-limit.ensures.left.0 n)

  fades : left_of_fade c.args.fade c.first_plan-plan.result (suc i)
  fades n = omega (arith, c.loop-i-test.true, c.run_limit-limit.ensures.left.1 n)

  inside : c.args.c.position ≤ 2 ^ 60 - 2 ^ 40
  inside = c.run_limit-limit.ensures.inside (omega (arith, c.loop-i-test.true))

  rate-is : c.rate_at-next.result ≡ rate_at c.args.c (suc i)
  rate-is = c.rate_at-next.ensures ∙ ap (λ d. rate_at d (i + 1)) c.rates_of-rates.ensures ∙ ap (rate_at c.args.c) (add-one i)

  high : c.loop-i.position + 2 * c.rate_at-next.result ≤ 2 ^ 60
  high = run_high c.loop-i.position c.rate_at-next.result c.loop-i.invariant.along c.requires.control near glides rate-is inside

pub overflow_add-positions : goal.overflow_add-positions
overflow_add-positions c = omega (arith, high c)

pub overflow_mul-position : goal.overflow_mul-position
overflow_mul-position c = omega (arith, high c)

pub overflow_add-position : goal.overflow_add-position
overflow_add-position c = omega (arith, high c)

pub loop-i-preserved : goal.loop-i-preserved
loop-i-preserved c =
    let p = c.first_plan-plan.result in
    let N = c.rate_at-next.result in
    let a = c.loop-i.invariant in
    let v = c.requires.control in
    let is = plan_is c.rates_of-rates.ensures c.first_plan-plan.ensures in
    let one_more : i c + 1 ≡ suc (i c) = add-one (i c) in
    let tested = test_holds c.in_band.ensures c.if-not-in_band.false in
    let stays : p.step ≡ 0 → asked_level p.old N ≡ p.old = λ z.
    band_stays p.old N (old_high v is) (subst (λ w. in_band w N ≡ true) (c.run_band-stays.ensures z) tested) in record {
      length = simp length-set a.length;
      all = a.all;
      along = rw one_more (along-more c.loop-i.position N a.along v (near c) (glides c) (rate-is c) (inside c) (first-is v is) stays (fades c) c.requires.in_range.1 (omega (arith, a.length, near c)));
    }

pub returns-then-made-eq0-clause-control : goal.returns-then-made-eq0-clause-control
returns-then-made-eq0-clause-control c = none_made c.args.fade c.args.c refl c.if-made-eq0.true

pub returns-then-made-eq0-clause-plan : goal.returns-then-made-eq0-clause-plan
returns-then-made-eq0-clause-plan c =
    let v = c.requires.control in
    let is = plan_is c.rates_of-rates.ensures c.first_plan-plan.ensures in
    (first-is v is, λ m. omega (arith, step_high v is, c.if-made-eq0.true))

pub returns-clause-control : goal.returns-clause-control
returns-clause-control c =
    let F = c.args.fade in
    let d = c.args.c in
    let p = c.first_plan-plan.result in
    let P = c.loop-i.position in
    let n = c.loop-i-test.made in
    let made : n ≡ c.loop-i.i = elim c.loop-i-test.branch [ else-loop-i-test w ↦ omega arith | then-loop-i-test+then-not-in_band w ↦ omega arith ] in
    let at : Fade → Control = λ g. control_at d g n P in
    let fade = c.fade_at-left.ensures ∙ sym (fade_some F d.fade p n c.if-made-eq0.false) in
    let after : at (fade_at F d.fade p n) ≡ control_after F d n = rw made c.loop-i.invariant.along.after in
    c.control_at.ensures ∙ ap (λ x. control_at x c.fade_at-left.result n P) c.rates_of-rates.ensures ∙ ap at fade ∙ after

pub returns-clause-plan : goal.returns-clause-plan
returns-clause-plan c =
    let v = c.requires.control in
    let is = plan_is c.rates_of-rates.ensures c.first_plan-plan.ensures in
    let made : c.loop-i-test.made ≤ c.run_limit-limit.result = elim c.loop-i-test.branch [ else-loop-i-test w ↦ omega arith | then-loop-i-test+then-not-in_band w ↦ omega arith ] in
    (first-is v is, λ n. omega (arith, c.run_limit-limit.ensures.left.1 n))
