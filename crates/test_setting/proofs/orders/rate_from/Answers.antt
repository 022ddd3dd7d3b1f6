-- `test_setting::orders::rate_from` meets its contract: neither the cast nor the product rounds. Assumes nothing.
use Prim.Native.Nat.{◌+◌, ◌/◌, ◌^◌}
use native.Mathlib.Omega.{arith}
use lib.Ieee.{of_bits}
use Rattle.test_setting.specs.Orders.{rate_from}
use Rattle.test_setting.proofs.Rates.{fraction_made}
use Rattle.test_setting.proofs.orders.rate_from.Goals as goal

pub returns : goal.returns
unfolding of_bits rate_from
returns c = fraction_made (64 + c.args.state / 2 ^ 24) 5 (omega arith) (omega arith)
