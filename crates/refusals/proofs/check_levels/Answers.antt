-- `refusals::check_levels` meets its contract: 13, then 19. Assumes nothing.
use Rattle.std.proofs.Common.{refl, sym, ap, ◌∙◌}
use Rattle.refusal.specs.Number.{refuse}
use Rattle.refusal.proofs.Numbers.{after_none, handed_on}
use Rattle.refusals.specs.Refusals.{top_wrong, levels_number}
use Rattle.refusals.proofs.check_levels.Goals as goal

pub returns-in_err-when : goal.returns-in_err-when
unfolding levels_number
returns-in_err-when c = handed_on _ c.from_residual.result c.in_err-when.field-0.0 c.from_residual.ensures.1 (c.in_err-when.ensures ∙ ap (refuse 13) c.levels_wrong-wrong.ensures)

pub returns : goal.returns
unfolding levels_number top_wrong
returns c = c.when-2.ensures ∙ sym (after_none _ (c.in_ok-when.ensures ∙ ap (refuse 13) c.levels_wrong-wrong.ensures) refl)
