-- `control::rate::octave_level` meets its contract: the logarithm, at most 4, is the level that the definition's tests find. Assumes nothing.
use mathlib.Core.Path.{ap, ◌∙◌}
use Prim.Native.Nat.{min}
use Rattle.control.proofs.Rates.{octave_is}
use Rattle.control.proofs.rate.octave_level.Goals as goal

pub returns : goal.returns
returns c = c.min.ensures ∙ octave_is c.args.rate c.max.result c.ilog2.result c.max.ensures c.ilog2.ensures.power_le c.ilog2.ensures.next_power_gt
