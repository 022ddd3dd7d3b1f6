-- Orders (document 01, "Rate and position"): a jump to a rate, or a glide to one.
use Rattle.control.specs.declared.Control.{Control}
use Rattle.control.specs.declared.Order.{Order}
use Rattle.control.specs.declared.Order.TheVariants.{Jump, Glide}
use Rattle.control.specs.Rate.{rate_of}
use Rattle.control.specs.Moves.{jumped, gliding}

-- the control that an order leaves
unfoldable pub ordered : Control → Order → Control
ordered c (Jump r) = jumped c (rate_of r)
ordered c (Glide r count) = gliding c (rate_of r) count
