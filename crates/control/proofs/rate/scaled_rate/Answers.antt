-- `control::rate::scaled_rate` meets its contract: a rate has no place below 2^-27 and stays below 2^32, so neither the product nor the
-- casts round. Assumes nothing.
use lib.Ieee.{of_bits}
use Rattle.control.proofs.Rates.{not_nan, scaled_cast}
use Rattle.control.proofs.rate.scaled_rate.Goals as goal

pub float_to_float-x : goal.float_to_float-x
float_to_float-x c = not_nan _ c.row_known-1.given c.before.requires

pub float_to_int-result : goal.float_to_int-result
unfolding of_bits
float_to_int-result c = (scaled_cast _ c.before.row_known-1.given c.before.before.requires).0

pub returns : goal.returns
unfolding of_bits
returns c = (scaled_cast _ c.before.row_known-1.given c.before.before.requires).1
