-- Definitions that only inner functions' contracts cite: no rule of document 01, but a step of the code that computes one.
use Rattle.std.specs.Prelude.{List, ℕ, ℤ, pos, replicate, Result, Ok, Err}
use Rattle.refusal.specs.Number.{number}
use Rattle.arith.specs.Lists.{overwrite}
use Rattle.player.specs.declared.Voice.{Voice}
use Rattle.control.specs.Moves.{no_glide, no_fade}
use Rattle.player.specs.declared.Refused.{Refused}
use Rattle.player.specs.Calls.{Answer, answer, silence}

-- a line of points before a run: the history from place 128 on, and room for 128 points before it
unfoldable pub line_of : List ℤ → List ℤ
line_of history = overwrite (replicate 209 (pos 0)) 128 history

-- a voice at position 0 on a level, with no glide, no fade and a silent history
unfoldable pub resting_voice : ℕ → ℕ → ℕ → Voice
resting_voice T R l = record { control = record { top = T; fade = no_fade l; rate = R; glide = no_glide; position = 0 }; history = silence }

-- a check's answer, with the voice that goes on where nothing is refused
abbrev pub stopped : Result Unit Refused → Voice → Answer
stopped (Ok _) v = answer 0 v
stopped (Err r) v = answer (number r.refusal) r.voice
