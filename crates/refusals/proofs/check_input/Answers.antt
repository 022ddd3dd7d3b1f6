-- `refusals::check_input` meets its contract: 10, and for a glide 11. Assumes nothing.
use Rattle.std.proofs.Common.{not, refl, sym, ap, ◌∙◌}
use Rattle.refusal.specs.Number.{refuse}
use Rattle.refusal.proofs.Numbers.{after_none, handed_on}
use Rattle.refusals.specs.Refusals.{order_input_number}
use Rattle.refusals.proofs.check_input.Goals as goal

pub returns-in-Jump : goal.returns-in-Jump
unfolding order_input_number
returns-in-Jump c = rw c.in-Jump.is (c.when.ensures ∙ ap (λ b. refuse 10 (not b)) c.rate_in_range.ensures)

pub returns-in_err-when-in-Glide : goal.returns-in_err-when-in-Glide
unfolding order_input_number
returns-in_err-when-in-Glide c =
    rw c.in-Glide.is
    (handed_on _ c.from_residual.result c.in_err-when-in-Glide.field-0.0 c.from_residual.ensures.1 (c.in_err-when-in-Glide.ensures ∙ ap (λ b. refuse 10 (not b)) c.rate_in_range-in-Glide.ensures))

pub returns-in_ok-when-in-Glide : goal.returns-in_ok-when-in-Glide
unfolding order_input_number
returns-in_ok-when-in-Glide c =
    rw c.in-Glide.is
    (c.when-in-Glide-2.ensures ∙ ap (refuse 11) c.glide_count_wrong.ensures ∙ sym (after_none _ (c.in_ok-when-in-Glide.ensures ∙ ap (λ b. refuse 10 (not b)) c.rate_in_range-in-Glide.ensures) refl))
