-- `points::one_output` meets its contract: the steps of one output, put together. Assumes nothing.
use mathlib.Core.Path.{◌≡◌, refl, ap, ◌∙◌}
use mathlib.Core.List.{List, ◌∷◌, []}
use Prim.Native.Nat.{ℕ, ◌+◌, ◌^◌, ◌≤◌, ◌<◌}
use native.Mathlib.Nat.{le_trans}
use native.Mathlib.Omega.{arith}
use lib.IntN.{ℤ, pos}
use lib.ListN.{length, set}
use mir.Syntax.{w64}
use mir.Val.{SFits}
use Rattle.arith.specs.Lists.{overwrite}
use Rattle.arith.proofs.Bits.{reads}
use Rattle.arith.proofs.Lists.{paste_none, paste_more, paste_all}
use Rattle.book.proofs.Accepted.{accepted, sizes_bounded}
use Rattle.control.specs.declared.Control.{Control}
use Rattle.control.specs.declared.Plan.{Plan}
use Rattle.control.specs.Moves.{move_glide, point_plan, move_point, move_output}
use Rattle.control.specs.Valid.{Valid}
use Rattle.control.proofs.Kept.{move_glide_valid, move_glide_top, move_point_valid, move_point_top}
use Rattle.positions.specs.Runs.{control_after, first_plan, second_plan}
use Rattle.multiplies.specs.Multiplies.{values_made}
use Rattle.multiplies.specs.Inner.{run_values}
use Rattle.multiplies.proofs.Multiplies.{made_high}
use Rattle.points.specs.Points.{point}
use Rattle.points.specs.Runs.{run_points}
use Rattle.points.proofs.Points.{plan_read}
use Rattle.windows.specs.declared.source.Source.{Source}
use Rattle.points.proofs.one_output.Goals as goal

-- the steps of the code, put together
control_is : (F : ℕ) (c : Control) {one two last : Control} → one ≡ move_glide c → two ≡ move_point F one → last ≡ move_point F two → last ≡ control_after F c 1
unfolding control_after move_output
control_is F c one two last = cc

points_are : (make : Plan → ℤ) (F : ℕ) (c : Control) {one two : Control} {plan₁ plan₂ : Plan} {x y : ℤ} → one ≡ move_glide c → plan₁ ≡ point_plan one → x ≡ make plan₁
    → two ≡ move_point F one → plan₂ ≡ point_plan two → y ≡ make plan₂ → y ∷ x ∷ [] ≡ run_points make F c 1
unfolding run_points control_after
points_are make F c one plan₁ x two plan₂ y = cc

values_are : (F : ℕ) (c : Control) {one two : Control} {plan₁ plan₂ : Plan} {x y : ℕ} → one ≡ move_glide c → plan₁ ≡ point_plan one → x ≡ values_made plan₁.step
    → two ≡ move_point F one → plan₂ ≡ point_plan two → y ≡ values_made plan₂.step → x + y ≡ run_values F c 1
unfolding run_values control_after
values_are F c {x = v} {y = w} one plan₁ x two plan₂ y =
    let first : v ≡ values_made (first_plan F c 0).step = cc in
    let second : w ≡ values_made (second_plan F c 0).step = cc in
    omega (arith, first, second)

-- two words, written one after the other
two_written : (line : List ℤ) (x y : ℤ) → 128 ≤ length line → set (set line 126 y) 127 x ≡ overwrite line 126 (y ∷ x ∷ [])
two_written line x y h =
    let words = y ∷ x ∷ [] in
    ap (λ l. set (set l 126 y) 127 x) (paste_none line 126 words)
    ∙ ap (λ l. set l 127 x) (paste_more line 126 words 0 (pos 0) y (omega arith) (omega arith) refl)
    ∙ paste_more line 126 words 1 (pos 0) x (omega arith) (omega arith) refl
    ∙ paste_all line 126 words 2 refl

module _ (s : Source) where
  abbrev F : ℕ
  F = s.layout.fade

  fade_small : F ≤ 256
  fade_small = let o = s.laid_out.sizes in omega (arith, o.fade, (sizes_bounded s.book.now (accepted s.book.now o.book_accepted)).fade_high)

  -- a valid control whose levels lie in the store
  abbrev Ready : Control → Type 0
  Ready c = (c.top ≤ s.top) × Valid F c

  glide_ready : {c d : Control} → Ready c → d ≡ move_glide c → Ready d
  glide_ready {c} r e = rw e (rw (move_glide_top c) r.0, move_glide_valid r.1)

  point_ready : {c d : Control} → Ready c → d ≡ move_point F c → Ready d
  point_ready {c} r e = rw e (rw (move_point_top F c) r.0, move_point_valid r.1)

  plan_small : {c : Control} → Ready c → (c.fade.from ≤ 4) × (c.fade.step < 2 ^ 31)
  plan_small r = (omega (arith, r.1.from_high, r.1.top_high), omega (arith, r.1.step_low, fade_small))

  -- what a plan reads of the store
  levels : {c : Control} {p : Plan} → Ready c → p ≡ point_plan c → (p.old ≤ s.top) × (p.new ≤ s.top)
  levels {c} {p} r e = let q = plan_read r.1 p e in (le_trans q.0 r.0, le_trans q.1 r.0)

  in_range : {c : Control} {p : Plan} → Ready c → p ≡ point_plan c → (p.step ≤ F) × (p.position ≤ 2 ^ 60)
  in_range {c} {p} r e = let q = plan_read r.1 p e in (q.2, q.3)

-- ---- the first point

pub point_plan-p-requires : goal.point_plan-p-requires
point_plan-p-requires c = plan_small c.args.source.now (glide_ready c.args.source.now c.requires c.glide_moved-one.ensures)

pub one_point-first-requires-clause-levels : goal.one_point-first-requires-clause-levels
one_point-first-requires-clause-levels c = levels c.args.source.now (glide_ready c.args.source.now c.requires c.glide_moved-one.ensures) c.point_plan-p.ensures

pub one_point-first-requires-clause-in_range : goal.one_point-first-requires-clause-in_range
one_point-first-requires-clause-in_range c = in_range c.args.source.now (glide_ready c.args.source.now c.requires c.glide_moved-one.ensures) c.point_plan-p.ensures

pub point_moved-two-requires : goal.point_moved-two-requires
point_moved-two-requires c = plan_small c.args.source.now (glide_ready c.args.source.now c.requires c.glide_moved-one.ensures)

-- ---- the second point
two_ready : (s : Source) {c one two : Control} → Ready s c → one ≡ move_glide c → two ≡ move_point (F s) one → Ready s two
two_ready s r e f = point_ready s (glide_ready s r e) f

pub point_plan-q-requires : goal.point_plan-q-requires
point_plan-q-requires c = plan_small c.args.source.now (two_ready c.args.source.now c.requires c.glide_moved-one.ensures c.point_moved-two.ensures)

pub one_point-second-requires-clause-levels : goal.one_point-second-requires-clause-levels
one_point-second-requires-clause-levels c = levels c.args.source.now (two_ready c.args.source.now c.requires c.glide_moved-one.ensures c.point_moved-two.ensures) c.point_plan-q.ensures

pub one_point-second-requires-clause-in_range : goal.one_point-second-requires-clause-in_range
one_point-second-requires-clause-in_range c = in_range c.args.source.now (two_ready c.args.source.now c.requires c.glide_moved-one.ensures c.point_moved-two.ensures) c.point_plan-q.ensures

pub point_moved-requires : goal.point_moved-requires
point_moved-requires c = plan_small c.args.source.now (two_ready c.args.source.now c.requires c.glide_moved-one.ensures c.point_moved-two.ensures)

-- ---- both together
pub overflow_add-result : goal.overflow_add-result
overflow_add-result c =
    let first : c.values_made.result ≤ 2 = rw c.values_made.ensures (made_high _) in
    let second : c.values_made-2.result ≤ 2 = rw c.values_made-2.ensures (made_high _) in
    omega (arith, first, second)

pub returns-clause-made : goal.returns-clause-made
returns-clause-made c =
    let s = c.args.source.now in (
      refl,
      control_is (F s) c.args.c c.glide_moved-one.ensures c.point_moved-two.ensures c.point_moved.ensures,
      values_are (F s) c.args.c c.glide_moved-one.ensures c.point_plan-p.ensures c.values_made.ensures c.point_moved-two.ensures c.point_plan-q.ensures c.values_made-2.ensures,
    )

pub returns-clause-points : goal.returns-clause-points
returns-clause-points c =
    let s = c.args.source.now in
    let line = c.args.line.now in
    let first : SFits w64 c.one_point-first.result = record { sfits = c.one_point-first.type_inv } in
    let second : SFits w64 c.one_point-second.result = record { sfits = c.one_point-second.type_inv } in
    let make = point s.book.now s.store.now in
    let written = two_written line c.one_point-first.result c.one_point-second.result (omega arith) in
    let points = points_are make (F s) c.args.c c.glide_moved-one.ensures c.point_plan-p.ensures c.one_point-first.ensures c.point_moved-two.ensures c.point_plan-q.ensures c.one_point-second.ensures in
    simp (reads, first, second) (written ∙ ap (overwrite line 126) points)
