-- `refusals::check_play_state` meets its contract: 13 and 19, 14, then 15 to 17, then 11. Assumes nothing.
use Rattle.std.proofs.Common.{refl, sym, ap, ◌∙◌}
use Rattle.refusal.specs.Number.{refuse}
use Rattle.refusal.proofs.Numbers.{after_none, handed_on}
use Rattle.refusals.specs.Refusals.{output_count_wrong, play_state_number}
use Rattle.refusals.proofs.Valid.{top_right}
use Rattle.refusals.proofs.check_play_state.Goals as goal

pub returns-in_err-check_levels : goal.returns-in_err-check_levels
unfolding play_state_number
returns-in_err-check_levels c = handed_on _ c.from_residual.result c.in_err-check_levels.field-0.0 c.from_residual.ensures.1 c.in_err-check_levels.ensures

pub returns-in_err-when : goal.returns-in_err-when
unfolding play_state_number
returns-in_err-when c =
    let r = c.from_residual-in_err-when in
    handed_on _ r.result c.in_err-when.field-0.0 r.ensures.1 (c.in_err-when.ensures ∙ ap (refuse 14) c.fade_wrong.ensures) ∙ sym (after_none _ c.in_ok-check_levels.ensures refl)

pub check_late-requires : goal.check_late-requires
check_late-requires c = top_right _ _ (sym c.in_ok-check_levels.ensures)

pub returns-in_err-check_late : goal.returns-in_err-check_late
unfolding play_state_number
returns-in_err-check_late c =
    let r = c.from_residual-in_err-check_late in
    handed_on _ r.result c.in_err-check_late.field-0.0 r.ensures.1 c.in_err-check_late.ensures
    ∙ sym (after_none _ c.in_ok-check_levels.ensures refl ∙ after_none _ (c.in_ok-when.ensures ∙ ap (refuse 14) c.fade_wrong.ensures) refl)

pub returns : goal.returns
unfolding play_state_number output_count_wrong
returns c =
    c.when-2.ensures
    ∙ sym (after_none _ c.in_ok-check_levels.ensures refl ∙ after_none _ (c.in_ok-when.ensures ∙ ap (refuse 14) c.fade_wrong.ensures) refl ∙ after_none _ c.in_ok-check_late.ensures refl)
