-- `player::calls::ordered_control` meets its contract: the order's rate is in range, so that its scaled rate is exact. Assumes nothing.
use mathlib.Core.Path.{◌≡◌, sym, ap, ◌∙◌}
use mathlib.Core.Bool.{true}
use Prim.Native.Nat.{ℕ, ◌≤◌}
use lib.Ieee.{Float}
use Rattle.refusal.proofs.Numbers.{none_first, not_refused}
use Rattle.control.specs.declared.Order.TheVariants.{Jump, Glide}
use Rattle.control.specs.Rate.{rate_in_range}
use Rattle.control.specs.Moves.{jumped, gliding}
use Rattle.control.specs.Orders.{ordered}
use Rattle.refusals.specs.Refusals.{order_input_number}
use Rattle.control.proofs.Rates.{rate_wider}
use Rattle.player.proofs.calls.ordered_control.Goals as goal

-- an order without a number has a rate below 32
jump_rate : (T : ℕ) (r : Float) → T ≤ 4 → order_input_number T (Jump r) ≡ 0 → rate_in_range r 4 ≡ true
unfolding order_input_number
jump_rate T r h e = rate_wider r T 4 h (not_refused 9 _ e)

glide_rate_lem : (T : ℕ) (r : Float) (count : ℕ) → T ≤ 4 → order_input_number T (Glide r count) ≡ 0 → rate_in_range r 4 ≡ true
unfolding order_input_number
glide_rate_lem T r count h e = rate_wider r T 4 h (not_refused 9 _ (none_first _ _ e))

pub scaled_rate-requires : goal.scaled_rate-requires
scaled_rate-requires c = jump_rate _ _ c.requires.0 (ap (order_input_number _) (sym c.in-Jump.is) ∙ c.requires.1)

pub scaled_rate-requires-in-Glide : goal.scaled_rate-requires-in-Glide
scaled_rate-requires-in-Glide c = glide_rate_lem _ _ _ c.requires.0 (ap (order_input_number _) (sym c.in-Glide.is) ∙ c.requires.1)

pub returns-in-Jump : goal.returns-in-Jump
unfolding ordered jumped
returns-in-Jump c = simp (c.in-Jump.is, c.scaled_rate.ensures)

pub returns-in-Glide : goal.returns-in-Glide
unfolding ordered gliding
returns-in-Glide c = simp (c.in-Glide.is, c.scaled_rate-in-Glide.ensures)
