use Rattle.marshal.specs.Words.{voice_of}
use Rattle.marshal.proofs.words.voice_of.Goals as goal

pub returns : goal.returns
unfolding voice_of
returns c = cc
