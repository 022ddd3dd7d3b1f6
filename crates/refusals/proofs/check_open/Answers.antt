-- `refusals::check_open` meets its contract: 8 for T, then 10. Assumes nothing.
use Rattle.std.proofs.Common.{not, refl, sym, ap, ◌∙◌, arith}
use Rattle.arith.proofs.Tests.{tests}
use Rattle.refusal.specs.Number.{refuse}
use Rattle.refusal.proofs.Numbers.{after_none, condition_fails, handed_on}
use Rattle.store.proofs.Ranges.{top_beyond}
use Rattle.refusals.specs.Refusals.{open_number}
use Rattle.refusals.proofs.check_open.Goals as goal

pub returns-in_err-when : goal.returns-in_err-when
unfolding open_number
returns-in_err-when c = handed_on _ c.from_residual.result c.in_err-when.field-0.0 c.from_residual.ensures.1 (c.in_err-when.ensures ∙ ap (refuse 8) (top_beyond c.args.card.top))

pub rate_in_range-requires : goal.rate_in_range-requires
rate_in_range-requires c = let fine = condition_fails 7 _ (sym c.in_ok-when.ensures) in grind (arith, tests)

pub returns : goal.returns
unfolding open_number
returns c = c.when-2.ensures ∙ ap (λ b. refuse 10 (not b)) c.rate_in_range.ensures ∙ sym (after_none _ (c.in_ok-when.ensures ∙ ap (refuse 8) (top_beyond c.args.card.top)) refl)
