-- `control::rate::rate_in_range` meets its contract: the two float comparisons are the two tests of `rate_in_range`. Assumes nothing.
use mathlib.Core.Path.{ap, ◌∙◌}
use lib.Ieee.{of_bits, lt}
use Rattle.control.proofs.Rates.{below_top, not-below}
use Rattle.control.proofs.rate.rate_in_range.Goals as goal

pub returns-then-r : goal.returns-then-r
unfolding of_bits
returns-then-r c = ap (lt c.args.r) c.rate_end.ensures ∙ below_top _ _ c.if-r.true

pub returns-else-r : goal.returns-else-r
unfolding of_bits
returns-else-r c = c.if-r.false ∙ not-below _ _ c.if-r.false
