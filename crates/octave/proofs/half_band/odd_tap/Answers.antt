-- `octave::half_band::odd_tap` meets its contract. Assumes nothing.
use Rattle.std.proofs.Common.{arith}
use Rattle.octave.proofs.Octave.{tap_small}
use Rattle.octave.proofs.half_band.odd_tap.Goals as goal

pub limit16-requires : goal.limit16-requires
limit16-requires c = tap_small c.args.taps.now.words.now c.args.taps.now.bounded c.abs_diff.result (omega arith)
