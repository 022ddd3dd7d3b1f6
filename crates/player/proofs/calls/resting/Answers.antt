-- `player::calls::resting` meets its contract: the fields are those of the definition. Assumes nothing.
use mathlib.Core.Path.{refl}
use Rattle.player.specs.Inner.{resting_voice}
use Rattle.player.proofs.calls.resting.Goals as goal

pub returns : goal.returns
unfolding resting_voice
returns c = refl
