-- Orders drawn from the stream of the test hum (document 02, (b)), one state each.
use Rattle.std.specs.Prelude.{cond, ℕ, ◌+◌, ◌/◌, ◌%◌, ◌^◌, eqb, Float}
use Rattle.control.specs.declared.Order.{Order}
use Rattle.control.specs.declared.Order.TheVariants.{Jump, Glide}
use Rattle.test_hum.specs.Hum.{next_state}
use Rattle.test_setting.specs.declared.NextOrder.{NextOrder}
use Rattle.test_setting.specs.Setting.{fraction}

-- rate 1 + (state div 2^24)/64
unfoldable pub rate_from : ℕ → Float
rate_from state = fraction (64 + state / 2 ^ 24) 64

-- a jump if the state is even, else a glide over 10
unfoldable pub order_from : ℕ → Order
order_from state = cond (eqb (state % 2) 0) (Jump (rate_from state)) (Glide (rate_from state) 10)

-- the next order of the stream, and its state
unfoldable pub next_order : ℕ → NextOrder
next_order state = record { state = next_state state; order = order_from (next_state state) }
