-- `refusals::check_late` meets its contract: 15, 16, then 17. Assumes nothing.
use Rattle.std.proofs.Common.{refl, sym, ap, ◌∙◌}
use Rattle.refusal.specs.Number.{refuse}
use Rattle.refusal.proofs.Numbers.{after_none, handed_on}
use Rattle.refusals.specs.Refusals.{position_wrong, late_number}
use Rattle.refusals.proofs.check_late.Goals as goal

pub returns-in_err-when : goal.returns-in_err-when
unfolding late_number
returns-in_err-when c = handed_on _ c.from_residual.result c.in_err-when.field-0.0 c.from_residual.ensures.1 (c.in_err-when.ensures ∙ ap (refuse 15) c.glide_wrong.ensures)

pub returns-in_err-when-2 : goal.returns-in_err-when-2
unfolding late_number position_wrong
returns-in_err-when-2 c =
    let r = c.from_residual-in_err-when-2 in
    handed_on _ r.result c.in_err-when-2.field-0.0 r.ensures.1 c.in_err-when-2.ensures ∙ sym (after_none _ (c.in_ok-when.ensures ∙ ap (refuse 15) c.glide_wrong.ensures) refl)

pub returns : goal.returns
unfolding late_number position_wrong
returns c =
    c.when-3.ensures ∙ ap (refuse 17) c.history_wrong.ensures
    ∙ sym (after_none _ (c.in_ok-when.ensures ∙ ap (refuse 15) c.glide_wrong.ensures) refl ∙ after_none _ c.in_ok-when-2.ensures refl)
