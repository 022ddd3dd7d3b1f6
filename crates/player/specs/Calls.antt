-- The answers of the player's calls: for each input the number, the voice and every output word. A refusal hands the voice back as it
-- came (opening: the zero record) and writes no output word.
use Rattle.std.specs.Prelude.{cond, List, ℕ, eqb, ℤ, pos, length, replicate, Result, Ok, Err}
use Rattle.refusal.specs.Number.{number}
use Rattle.book.specs.Book.{sizes_of}
use Rattle.control.specs.declared.Card.{Card}
use Rattle.player.specs.declared.Voice.{Voice}
use Rattle.control.specs.declared.Order.{Order}
use Rattle.player.specs.declared.Refused.{Refused}
use Rattle.player.specs.declared.Play.{Play}
use Rattle.control.specs.Rate.{rate_of}
use Rattle.control.specs.Moves.{no_glide, no_fade, fresh_control, sought}
use Rattle.control.specs.Orders.{ordered}
use Rattle.multiplies.specs.Multiplies.{multiplies}
use Rattle.player.specs.Outputs.{voice_after, outputs}
use Rattle.refusals.specs.Refusals.{point_bound, open_number, order_number, seek_number, play_number}

-- what opening, an order and a seek leave: a refusal's number or 0, and the voice
pub record Answer : Type 0 where
  pub number : ℕ
  pub voice : Voice

abbrev pub answer : ℕ → Voice → Answer
answer n v = record { number = n; voice = v }

-- the same of what the code hands back
abbrev pub answer_of : Result Voice Refused → Answer
answer_of (Ok v) = answer 0 v
answer_of (Err r) = answer (number r.refusal) r.voice

-- 81 points of silence
abbrev pub silence : List ℤ
silence = replicate 81 (pos 0)

unfoldable pub zero_voice : Voice
zero_voice = record { control = record { top = 0; fade = no_fade 0; rate = 0; glide = no_glide; position = 0 }; history = silence }

-- the fresh voice of a card
unfoldable pub fresh_voice : Card → Voice
fresh_voice card = record { control = fresh_control card.top (rate_of card.rate); history = silence }

unfoldable pub open_answer : Card → Answer
open_answer card = let n = open_number card in answer n (cond (eqb n 0) (fresh_voice card) zero_voice)

unfoldable pub order_answer : Voice → Order → Answer
order_answer v o =
    let n = order_number v.control point_bound v.history o in
    answer n (cond (eqb n 0) (record { control = ordered v.control o; history = v.history }) v)

unfoldable pub seek_answer : Voice → ℕ → Answer
seek_answer v P =
    let n = seek_number v.control point_bound v.history P in
    answer n (cond (eqb n 0) (record { control = sought v.control P; history = v.history }) v)

-- what a play leaves: its number, the voice, its multiply count and the words of its output slice
pub record Played : Type 0 where
  pub number : ℕ
  pub voice : Voice
  pub multiplies : ℕ
  pub words : List ℤ

abbrev pub played : ℕ → Voice → ℕ → List ℤ → Played
played n v m words = record { number = n; voice = v; multiplies = m; words = words }

-- the same of what the code hands back, and of the words that it leaves
abbrev pub played_of : Result Play Refused → List ℤ → Played
played_of (Ok p) words = played 0 p.voice p.multiplies words
played_of (Err r) words = played (number r.refusal) r.voice 0 words

-- play of an output slice, lent a book and a store; a refused call's multiply count is 0
unfoldable pub play_answer : List ℤ → List ℤ → Voice → List ℤ → Played
play_answer b store v words =
    let n = play_number b store v.control point_bound v.history (length words) in
    let count = length words in
    played n
    (cond (eqb n 0) (voice_after b store v count) v)
    (cond (eqb n 0) (multiplies (sizes_of b) v.control count) 0)
    (cond (eqb n 0) (outputs b store v count) words)
