-- `marshal::words::control_words` meets its contract, word by word. Assumes nothing.
use Rattle.std.proofs.Common.{rules}
use Rattle.marshal.specs.Words.{control_words}
use Rattle.marshal.proofs.Crossing.{signed_bits, low_bits, high_bits}
use Rattle.marshal.proofs.words.control_words.Goals as goal

pub returns : goal.returns
unfolding control_words
returns c =
    let v = c.args.c in
    simp (
      signed_bits v.top _ (search rules) c.cast_signed.ensures,
      signed_bits v.fade.from _ (search rules) c.cast_signed-2.ensures,
      signed_bits v.fade.to _ (search rules) c.cast_signed-3.ensures,
      signed_bits v.fade.step _ (search rules) c.cast_signed-4.ensures,
      low_bits v.rate _ c.low_word.ensures,
      high_bits v.rate _ (search rules) c.high_word.ensures,
      low_bits v.glide.start _ c.low_word-2.ensures,
      high_bits v.glide.start _ (search rules) c.high_word-2.ensures,
      low_bits v.glide.target _ c.low_word-3.ensures,
      high_bits v.glide.target _ (search rules) c.high_word-3.ensures,
      signed_bits v.glide.count _ (search rules) c.cast_signed-5.ensures,
      signed_bits v.glide.done _ (search rules) c.cast_signed-6.ensures,
      low_bits v.position _ c.low_word-4.ensures,
      high_bits v.position _ (search rules) c.high_word-4.ensures,
    )
