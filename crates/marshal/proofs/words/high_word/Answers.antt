-- `marshal::words::high_word` meets its contract. Assumes nothing.
use Rattle.std.proofs.Common.{◌/◌, ◌^◌, arith}
use Rattle.marshal.specs.Words.{high_word}
use Rattle.marshal.proofs.Crossing.{signed_bits}
use Rattle.marshal.proofs.words.high_word.Goals as goal

pub returns : goal.returns
unfolding high_word
returns c = signed_bits (c.args.x / 2 ^ 32) c.cast_signed.result (record { fits = omega arith }) c.cast_signed.ensures
