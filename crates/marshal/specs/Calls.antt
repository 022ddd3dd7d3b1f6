-- The answers of the calls over words: the player's, the voice read from its words and written back to them.
use Rattle.std.specs.Prelude.{cond, List, ℕ, eqb, ℤ, length, Result, Ok, Err}
use Rattle.refusal.specs.declared.Refusal.{Refusal}
use Rattle.control.specs.declared.Card.{Card}
use Rattle.player.specs.declared.Voice.{Voice}
use Rattle.player.specs.Calls.{Answer, open_answer, play_answer}
use Rattle.marshal.specs.Words.{voice_length, voice_of, words_of}

-- what a call leaves: its number, and the words of the voice
pub record Crossed : Type 0 where
  pub number : ℕ
  pub voice : List ℤ

abbrev pub crossed : ℕ → List ℤ → Crossed
crossed n voice = record { number = n; voice = voice }

-- 28: a voice that is not 95 words long
abbrev pub length_number : ℕ
length_number = 28

-- an opening: the words of the answer's voice, which after a refusal is the zero record
unfoldable pub open_crossing : List ℤ → Card → Crossed
open_crossing voice card =
    cond (eqb (length voice) voice_length) (crossed (open_answer card).number (words_of (open_answer card).voice)) (crossed length_number voice)

-- an answer, written back: a refusal leaves the words as they came
unfoldable pub returned : List ℤ → Answer → Crossed
returned voice a = crossed a.number (cond (eqb a.number 0) (words_of a.voice) voice)

-- an order or a seek
unfoldable pub crossing : List ℤ → (Voice → Answer) → Crossed
crossing voice call = cond (eqb (length voice) voice_length) (returned voice (call (voice_of voice))) (crossed length_number voice)

-- what a play leaves: its number, the words of the voice, its multiply count and the words of its output slice
pub record PlayCrossed : Type 0 where
  pub number : ℕ
  pub voice : List ℤ
  pub multiplies : ℕ
  pub words : List ℤ

abbrev pub play_crossed : ℕ → List ℤ → ℕ → List ℤ → PlayCrossed
play_crossed n voice m words = record { number = n; voice = voice; multiplies = m; words = words }

-- the multiply count that the code hands back: 0 of a refused play
abbrev pub count_of : Result ℕ Refusal → ℕ
count_of (Ok n) = n
count_of (Err _) = 0

unfoldable pub play_crossing : List ℤ → List ℤ → List ℤ → List ℤ → PlayCrossed
play_crossing voice b store out =
    let a = play_answer b store (voice_of voice) out in
    let words = cond (eqb a.number 0) (words_of a.voice) voice in
    cond (eqb (length voice) voice_length) (play_crossed a.number words a.multiplies a.words) (play_crossed length_number voice 0 out)
