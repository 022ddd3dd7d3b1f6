-- `control::rate::advanced` meets its contract: what the sum saturates at is above 2^60. Assumes nothing.
use native.Mathlib.Omega.{arith}
use Rattle.control.specs.Rate.{advance}
use Rattle.control.proofs.rate.advanced.Goals as goal

pub returns : goal.returns
unfolding advance
returns c = omega arith
