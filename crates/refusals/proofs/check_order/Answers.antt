-- `refusals::check_order` meets its contract: 13, then 15 to 17, then the order's own. Assumes nothing.
use Rattle.std.proofs.Common.{◌≡◌, refl, sym, ap, ◌∙◌}
use Rattle.refusal.specs.Number.{refuse}
use Rattle.refusal.proofs.Numbers.{after_none, condition_fails, handed_on}
use Rattle.refusals.specs.Refusals.{levels_wrong, order_number}
use Rattle.refusals.proofs.Valid.{levels_right}
use Rattle.refusals.proofs.check_order.Goals as goal
use Rattle.refusals.proofs.check_order.Goals.{In_ok-when}

-- 13 is not given
levelled : (c : In_ok-when) → 0 ≡ refuse 13 (levels_wrong c.args.c)
levelled c = c.in_ok-when.ensures ∙ ap (refuse 13) c.levels_wrong.ensures

pub returns-in_err-when : goal.returns-in_err-when
unfolding order_number
returns-in_err-when c = handed_on _ c.from_residual.result c.in_err-when.field-0.0 c.from_residual.ensures.1 (c.in_err-when.ensures ∙ ap (refuse 13) c.levels_wrong.ensures)

pub check_late-requires : goal.check_late-requires
check_late-requires c = (levels_right _ (condition_fails 12 _ (sym (levelled c)))).0

pub returns-in_err-check_late : goal.returns-in_err-check_late
unfolding order_number
returns-in_err-check_late c =
    let r = c.from_residual-in_err-check_late in
    handed_on _ r.result c.in_err-check_late.field-0.0 r.ensures.1 c.in_err-check_late.ensures ∙ sym (after_none _ (levelled c.before.before.before.before) refl)

pub check_input-requires : goal.check_input-requires
check_input-requires c = (levels_right _ (condition_fails 12 _ (sym (levelled c.before.before.before)))).0

pub returns : goal.returns
unfolding order_number
returns c = c.check_input.ensures ∙ sym (after_none _ (levelled c.before.before.before.before) refl ∙ after_none _ c.in_ok-check_late.ensures refl)
