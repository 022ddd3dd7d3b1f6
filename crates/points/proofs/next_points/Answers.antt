-- `points::next_points` meets its contract: the points of a run by their plans, or else one output. Assumes nothing.
use mathlib.Core.Path.{◌≡◌, refl, sym, ap, ◌∙◌}
use mathlib.Core.List.{List}
use Prim.Native.Nat.{ℕ, suc, ◌+◌, ◌-◌, ◌*◌, ◌^◌, ◌≤◌, ◌<◌}
use native.Mathlib.Nat.{le_trans, mul-le-mul}
use native.Mathlib.Omega.{arith}
use lib.IntN.{ℤ}
use lib.ListN.{length, get_or, take}
use lib.Seq.{get_or-take, length-take-le}
use Rattle.arith.specs.Lists.{tabulate, overwrite}
use Rattle.arith.proofs.Lists.{tabulate_ext}
use Rattle.book.proofs.Accepted.{accepted, sizes_bounded}
use Rattle.control.specs.declared.Control.{Control}
use Rattle.control.specs.declared.Plan.{Plan}
use Rattle.control.specs.Valid.{Valid}
use Rattle.control.proofs.Kept.{move_glide_valid, move_glide_top}
use Rattle.positions.specs.Runs.{control_after, first_plan, second_plan, run_plan}
use Rattle.multiplies.specs.Multiplies.{values_made}
use Rattle.multiplies.specs.Inner.{run_values}
use Rattle.multiplies.proofs.Multiplies.{made_high}
use Rattle.points.specs.Points.{point}
use Rattle.points.specs.Runs.{run_points}
use Rattle.points.proofs.Points.{plan_read}
use Rattle.points.proofs.RunPoints.{run_tabulate, run_made, values_run}
use Rattle.points.proofs.next_points.Goals as goal

-- one output is a run of one
one_made : (line : List ℤ) (make : Plan → ℤ) (F : ℕ) (c : Control) {m : ℕ} {l : List ℤ} → m ≡ 1 → l ≡ overwrite line 126 (run_points make F c 1)
    → l ≡ overwrite line (128 - 2 * m) (run_points make F c m)
one_made line make F c e points = points ∙ ap (λ n. overwrite line (128 - 2 * n) (run_points make F c n)) (sym e)

-- the first n positions, as the code lends them
module _ (ps : List ℕ) (n : ℕ) (room : n ≤ length ps) where
  lent_length : length (take n ps) ≡ n
  lent_length = length-take-le n ps room

  lent_at : (k : ℕ) → k < n → get_or (take n ps) k 0 ≡ get_or ps k 0
  lent_at k h = get_or-take n ps k 0 h

-- the run that was found
module _ (F : ℕ) (c : Control) (plan : Plan) (ps : List ℕ) (made : ℕ) where
  levels : Valid F c → plan ≡ first_plan F c 0 → (plan.old ≤ c.top) × (plan.new ≤ c.top)
  unfolding control_after
  levels v e = let r = plan_read (move_glide_valid v) plan e in (rw move_glide_top at r.0, rw move_glide_top at r.1)

  module _ (plans : (k : ℕ) → k < made
      → (first_plan F c k ≡ run_plan plan (2 * k) (get_or ps (2 * k) 0)) × (second_plan F c k ≡ run_plan plan (2 * k + 1) (get_or ps (2 * k + 1) 0))) where
    values_are : 2 * made * values_made plan.step ≡ run_values F c made
    values_are =
        sym (values_run F c (values_made plan.step) made
        (λ k h. let x = plans k h in (ap (λ q. values_made q.step) x.0 ∙ run_made plan (2 * k) (get_or ps (2 * k) 0), ap (λ q. values_made q.step) x.1 ∙ run_made plan (2 * k + 1) (get_or ps (2 * k + 1) 0))))

    -- the points of the plans
    points_are : (make : Plan → ℤ) (room : 2 * made ≤ length ps)
        → tabulate (2 * made) (λ j. make (run_plan plan (2 * made - suc j) (get_or (take (2 * made) ps) (2 * made - suc j) 0))) ≡ run_points make F c made
    points_are make room =
        tabulate_ext (2 * made) (λ j h. ap (λ P. make (run_plan plan (2 * made - suc j) P)) (lent_at ps (2 * made) room (2 * made - suc j) (omega arith)))
        ∙ run_tabulate make F c (λ k. make (run_plan plan k (get_or ps k 0))) made
        (λ k h. let x = plans k h in (ap make (sym x.0), ap make (sym x.1)))

pub run_positions-run-requires : goal.run_positions-run-requires
run_positions-run-requires c =
    let s = c.args.source.now in
    let o = s.laid_out.sizes in
    let f = sizes_bounded s.book.now (accepted s.book.now o.book_accepted) in
    record { control = c.requires.control.1; in_range = (c.requires.count.1, omega (arith, o.fade, f.fade_low), omega (arith, o.fade, f.fade_high)) }

pub returns-then-run-eq0-clause-points : goal.returns-then-run-eq0-clause-points
returns-then-run-eq0-clause-points c =
    let s = c.args.source.now in
    one_made c.args.line.now (point s.book.now s.store.now) s.layout.fade c.args.c c.one_output.ensures.made.0 c.one_output.ensures.points

pub planned_points-requires-clause-levels : goal.planned_points-requires-clause-levels
planned_points-requires-clause-levels c =
    let r = c.run_positions-run.result in
    let l = levels c.args.source.now.layout.fade c.args.c r.plan c.run_positions-run.new.positions r.made c.requires.control.1 c.run_positions-run.ensures.plan.0 in
    (le_trans l.0 c.requires.control.0, le_trans l.1 c.requires.control.0)

pub planned_points-requires-clause-rising : goal.planned_points-requires-clause-rising
planned_points-requires-clause-rising c i k h m =
    let ps = c.run_positions-run.new.positions in
    let n : ℕ = 2 * c.run_positions-run.result.made in
    let room : n ≤ length ps = omega arith in
    let in_run : k < n = omega (arith, m, lent_length ps n room) in
    rw (lent_at ps n room i (omega arith), lent_at ps n room k in_run) (c.run_positions-run.ensures.rising i k h in_run)

pub planned_points-requires-clause-early : goal.planned_points-requires-clause-early
planned_points-requires-clause-early c k m =
    let ps = c.run_positions-run.new.positions in
    let n : ℕ = 2 * c.run_positions-run.result.made in
    let room : n ≤ length ps = omega arith in
    let in_run : k < n = omega (arith, m, lent_length ps n room) in
    rw (lent_at ps n room k in_run) (c.run_positions-run.ensures.early k in_run)

pub overflow_mul-result : goal.overflow_mul-result
overflow_mul-result c =
    let two : c.values_made.result ≤ 2 = rw c.values_made.ensures (made_high _) in
    let few : 2 * c.run_positions-run.result.made ≤ 128 = omega arith in
    omega (arith, mul-le-mul few two)

pub returns-clause-made : goal.returns-clause-made
returns-clause-made c =
    let r = c.run_positions-run.result in
    let e = c.run_positions-run.ensures in
    let some : 1 ≤ r.made = omega (arith, c.if-run-eq0.false) in (
      some,
      e.made,
      e.control,
      ap (λ v. 2 * r.made * v) c.values_made.ensures ∙ values_are c.args.source.now.layout.fade c.args.c r.plan c.run_positions-run.new.positions r.made e.plans,
    )

pub returns-clause-points : goal.returns-clause-points
returns-clause-points c =
    let s = c.args.source.now in
    let r = c.run_positions-run.result in
    let ps = c.run_positions-run.new.positions in
    let n : ℕ = 2 * r.made in
    let room : n ≤ length ps = omega arith in
    let line = c.args.line.now in
    let make = point s.book.now s.store.now in
    c.planned_points.ensures
    ∙ ap (λ m. overwrite line (128 - m) (tabulate m (λ j. make (run_plan r.plan (m - suc j) (get_or (take n ps) (m - suc j) 0))))) (lent_length ps n room)
    ∙ ap (overwrite line (128 - n)) (points_are s.layout.fade c.args.c r.plan ps r.made c.run_positions-run.ensures.plans make room)
