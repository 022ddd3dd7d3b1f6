-- `player::Voice::order` meets its contract: a refusal leaves the voice, and else only its control changes. Assumes nothing.
use Rattle.std.proofs.Common.{◌≡◌, ◌≤◌, ℕ, List, ℤ, sym, ap, ◌∙◌}
use Rattle.refusal.specs.Number.{refuse}
use Rattle.refusal.proofs.Numbers.{none_first, none_second, condition_fails}
use Rattle.control.specs.declared.Control.{Control}
use Rattle.control.specs.declared.Order.{Order}
use Rattle.refusals.specs.Refusals.{levels_wrong, late_number, order_input_number, order_number}
use Rattle.refusals.proofs.Valid.{levels_right}
use Rattle.player.specs.Calls.{answer, order_answer}
use Rattle.player.proofs.Refusing.{none, refused}
use Rattle.player.proofs.Voice.order.Goals as goal

-- an order without a number: T is at most 4, and the order has none of its own
accepted : (c : Control) (bound : ℕ) (h : List ℤ) (o : Order) → order_number c bound h o ≡ 0 → (c.top ≤ 4) × (order_input_number c.top o ≡ 0)
unfolding order_number
accepted c bound h o e =
    let late = none_second (refuse 13 (levels_wrong c)) _ e in
    ((levels_right c (condition_fails 12 _ (none_first _ _ e))).0, none_second (late_number c bound h) _ late)

pub returns-in_err-beside : goal.returns-in_err-beside
unfolding order_answer
returns-in_err-beside c =
    refused c.in_err-beside.field-0.0 (c.in_err-beside.ensures ∙ ap (λ n. answer n c.args.self) c.check_order.ensures) c.from_residual.result _ c.from_residual.ensures.1

pub ordered_control-requires : goal.ordered_control-requires
ordered_control-requires c = accepted _ _ _ _ (sym c.check_order.ensures ∙ none c.in_ok-beside.ensures)

pub returns : goal.returns
unfolding order_answer
returns c =
    let none_given = sym c.check_order.ensures ∙ none c.in_ok-beside.ensures in
    simp none_given (ap (λ d. answer 0 (record { control = d; history = c.args.self.history })) c.ordered_control.ensures)
