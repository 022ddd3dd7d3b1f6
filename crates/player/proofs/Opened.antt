-- An accepted opening hands out the fresh voice of its card. Assumes nothing.
use mathlib.Core.Path.{◌≡◌}
use Rattle.control.specs.declared.Card.{Card}
use Rattle.refusals.specs.Refusals.{open_number}
use Rattle.player.specs.Calls.{fresh_voice, open_answer}

pub open_accepted : (card : Card) → open_number card ≡ 0 → (open_answer card).voice ≡ fresh_voice card
unfolding open_answer
open_accepted card e = rw e
