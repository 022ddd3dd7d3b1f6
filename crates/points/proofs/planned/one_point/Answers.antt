-- `points::planned::one_point` meets its contract: a point is a run of one. Assumes nothing.
use mathlib.Core.Path.{◌≡◌, sym, ap, ◌∙◌}
use mathlib.Core.List.{◌∷◌, []}
use Prim.Native.Nat.{ℕ}
use native.Mathlib.Omega.{arith}
use lib.IntN.{pos}
use lib.ListN.{get_or, replicate, length-replicate}
use mir.Syntax.{w64}
use mir.Val.{SFits}
use Rattle.arith.specs.Lists.{at}
use Rattle.arith.proofs.Bits.{reads}
use Rattle.arith.proofs.Integers.{abs_fits}
use Rattle.book.proofs.Accepted.{accepted}
use Rattle.positions.specs.Runs.{run_plan}
use Rattle.points.specs.Points.{point}
use Rattle.points.proofs.Points.{first-is, point_bound_lem}
use Rattle.points.proofs.Lines.{newest_at}
use Rattle.points.proofs.planned.one_point.Goals as goal

pub returns : goal.returns
returns c =
    let s = c.args.source.now in
    let p = c.args.p in
    let make = point s.book.now s.store.now in
    let made : at c.planned_points.new.line 127 ≡ make p =
    ap (λ l. at l 127) c.planned_points.ensures
    ∙ newest_at (replicate 128 (pos 0)) (λ k. make (run_plan p k (get_or (p.position ∷ []) k 0))) 1 0 (omega (arith, length-replicate 128 (pos 0))) (omega arith) (omega arith)
    ∙ ap make (first-is p) in
    let small = point_bound_lem s.book.now (accepted s.book.now s.laid_out.sizes.book_accepted) s.store.now p (omega (arith, s.tops)) (omega (arith, s.tops)) (omega (arith, s.laid_out.sizes.fade)) in
    let fits : SFits w64 (at c.planned_points.new.line 127) = rw made (abs_fits w64 (make p) (omega (arith, small))) in
    simp (reads, fits) made
