-- `positions::first_plan` meets its contract: the run's first rate is the glide's next. Assumes nothing.
use mathlib.Core.Path.{sym, ap, ◌∙◌}
use Prim.Native.Nat.{ℕ}
use Rattle.control.specs.declared.Plan.{Plan}
use Rattle.control.specs.Moves.{fade_target, point_plan}
use Rattle.positions.specs.Inner.{glide_at}
use Rattle.positions.proofs.Glides.{control_first}
use Rattle.positions.proofs.first_plan.Goals as goal

-- a plan reads no glide
pub returns : goal.returns
unfolding point_plan fade_target
returns c =
    let d = c.args.rates.control in
    let at : ℕ → Plan = λ R. point_plan (record { top = d.top; fade = d.fade; rate = R; glide = glide_at d.glide 1; position = d.position }) in
    c.point_plan.ensures ∙ ap at c.rate_at.ensures ∙ ap point_plan (sym (control_first c.args.rates.fit))
