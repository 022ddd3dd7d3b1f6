-- `marshal::words::put_voice` meets its contract: 14 words and 81 behind them are all 95. Assumes nothing.
use Rattle.std.proofs.Common.{◌++◌, ap₂, ◌∙◌}
use Rattle.marshal.specs.Words.{words_of}
use Rattle.marshal.proofs.words.put_voice.Goals as goal

pub returns : goal.returns
unfolding words_of
returns c = ap₂ (λ head points. head ++ points) (c.copy_from_slice.ensures.after ∙ c.control_words.ensures) c.copy_from_slice-2.ensures.after
