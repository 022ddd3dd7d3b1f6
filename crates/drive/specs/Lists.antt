-- Lists of order, seek and play calls, each given the voice that the last one returned: what the player hands out over such a list, and
-- what the exact player does.
use Rattle.std.specs.Prelude.{Bool, true, false, cond, List, [], ◌∷◌, ◌++◌, ℕ, ◌+◌, ◌*◌, ◌^◌, eqb, ℤ, length}
use Rattle.book.specs.Book.{sizes_of}
use Rattle.player.specs.declared.Voice.{Voice}
use Rattle.control.specs.declared.Order.{Order}
use Rattle.control.specs.Moves.{sought}
use Rattle.control.specs.Orders.{ordered}
use Rattle.refusals.specs.Refusals.{order_number, seek_number, play_state_number}
use Rattle.player.specs.Calls.{order_answer, seek_answer, play_answer}
use Rattle.drive.specs.Exact.{point_scale, ExactVoice, exact_after, exact_outputs}

-- a call with its arguments; a play has its output slice's words, of which only their count matters
pub data Call : Type 0 where
  order : Order → Call
  seek : ℕ → Call
  play : List ℤ → Call

-- ---- the player: each play is lent book b and the store

module _ (b store : List ℤ) where
  -- the number that a call returns
  unfoldable pub call_number : Voice → Call → ℕ
  call_number v (order o) = (order_answer v o).number
  call_number v (seek P) = (seek_answer v P).number
  call_number v (play words) = (play_answer b store v words).number

  -- the voice that it returns
  unfoldable pub call_voice : Voice → Call → Voice
  call_voice v (order o) = (order_answer v o).voice
  call_voice v (seek P) = (seek_answer v P).voice
  call_voice v (play words) = (play_answer b store v words).voice

  -- the samples that it hands out: an accepted play's words
  unfoldable pub call_samples : Voice → Call → List ℤ
  call_samples v (order o) = []
  call_samples v (seek P) = []
  call_samples v (play words) = let a = play_answer b store v words in cond (eqb a.number 0) a.words []

  -- the voice at the end of a list
  unfoldable pub end_voice : Voice → List Call → Voice
  end_voice v [] = v
  end_voice v (c ∷ calls) = end_voice (call_voice v c) calls

  -- all samples of a list, in order
  unfoldable pub handed_out : Voice → List Call → List ℤ
  handed_out v [] = []
  handed_out v (c ∷ calls) = call_samples v c ++ handed_out (call_voice v c) calls

-- ---- the exact player: fed the book, the recording and the same calls. Where a number turns a call away, by its arguments and this
-- state, nothing changes. Numbers 1 to 9 and 18 are about book, recording and store, which a list keeps and of which none holds, so play looks
-- at 13, 19, with the store's T, 14 to 17 and 11.

module _ (b samples : List ℤ) (T : ℕ) where
  -- ±2^29, over the points' scale
  unfoldable pub exact_bound : ℕ
  exact_bound = 2 ^ 29 * point_scale b T

  unfoldable pub exact_call_number : ExactVoice → Call → ℕ
  exact_call_number e (order o) = order_number e.control exact_bound e.points o
  exact_call_number e (seek P) = seek_number e.control exact_bound e.points P
  exact_call_number e (play words) = play_state_number (sizes_of b).fade T e.control exact_bound e.points (length words)

  -- the state that an accepted call leaves
  unfoldable pub exact_accepted : ExactVoice → Call → ExactVoice
  exact_accepted e (order o) = record { control = ordered e.control o; points = e.points }
  exact_accepted e (seek P) = record { control = sought e.control P; points = e.points }
  exact_accepted e (play words) = exact_after b samples T e (length words)

  unfoldable pub exact_call_voice : ExactVoice → Call → ExactVoice
  exact_call_voice e c = cond (eqb (exact_call_number e c) 0) (exact_accepted e c) e

  -- the exact sums of a call's outputs
  unfoldable pub exact_call_sums : ExactVoice → Call → List ℤ
  exact_call_sums e (order o) = []
  exact_call_sums e (seek P) = []
  exact_call_sums e (play words) = cond (eqb (exact_call_number e (play words)) 0) (exact_outputs b samples T e (length words)) []

  -- all exact sums of a list, in order
  unfoldable pub exact_sums : ExactVoice → List Call → List ℤ
  exact_sums e [] = []
  exact_sums e (c ∷ calls) = exact_call_sums e c ++ exact_sums (exact_call_voice e c) calls

-- ---- the accepted calls other than play

-- such a call, and how many samples the list had handed out before it
pub record Mark : Type 0 where
  pub before : ℕ
  pub call : Call

unfoldable pub is_play : Call → Bool
is_play (order o) = false
is_play (seek P) = false
is_play (play words) = true

-- those of a list that goes on after n samples
unfoldable pub marks : List ℤ → List ℤ → Voice → ℕ → List Call → List Mark
marks b store v n [] = []
marks b store v n (c ∷ calls) =
    let rest = marks b store (call_voice b store v c) (n + length (call_samples b store v c)) calls in
    cond (is_play c) rest (cond (eqb (call_number b store v c) 0) (record { before = n; call = c } ∷ rest) rest)
