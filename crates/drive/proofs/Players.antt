-- The player and the exact player, as lists of calls see them: one interface, and that each meets it. Assumes nothing.
use mathlib.Core.Path.{◌≡◌, refl}
use mathlib.Core.Bool.{cond}
use mathlib.Core.List.{List, [], ◌∷◌, ◌++◌}
use Prim.Native.Nat.{ℕ, suc}
use borrow.Author.Tests.{ne_eqb}
use lib.Dec.{eqb}
use lib.IntN.{ℤ}
use lib.ListN.{length}
use Rattle.arith.specs.Lists.{tabulate}
use Rattle.control.specs.declared.Order.{Order}
use Rattle.control.specs.Moves.{sought}
use Rattle.control.specs.Orders.{ordered}
use Rattle.decimation.specs.Decimation.{output}
use Rattle.player.specs.declared.Voice.{Voice}
use Rattle.player.specs.Outputs.{next_voice, voice_after, outputs}
use Rattle.player.specs.Calls.{order_answer, seek_answer, play_answer}
use Rattle.drive.specs.Exact.{ExactVoice, exact_output, exact_next, exact_after, exact_outputs}
use Rattle.drive.specs.Lists.{Call, order, seek, play, call_number, call_voice, call_samples, handed_out, exact_call_number, exact_accepted, exact_call_voice, exact_call_sums, exact_sums}

-- a player whose states are S: what a call returns, leaves and hands out, what a list hands out, and what these are by the call's number
pub record Player (S : Type 0) : Type 0 where
  pub number : S → Call → ℕ
  pub state : S → Call → S
  pub samples : S → Call → List ℤ
  pub all : S → List Call → List ℤ
  -- the state that an accepted order, an accepted seek, an output and n outputs leave, and the newest output of a state
  pub ordered_state : S → Order → S
  pub sought_state : S → ℕ → S
  pub next : S → S
  pub after : S → ℕ → S
  pub newest : S → ℤ
  -- a refused call leaves the state, and hands out nothing
  pub refused : (s : S) (c : Call) → (number s c ≡ 0 → ⊥) → (state s c ≡ s) × (samples s c ≡ [])
  -- an accepted order or seek hands out nothing, an accepted play its outputs
  pub ordered_by : (s : S) (o : Order) → number s (order o) ≡ 0 → (state s (order o) ≡ ordered_state s o) × (samples s (order o) ≡ [])
  pub sought_by : (s : S) (P : ℕ) → number s (seek P) ≡ 0 → (state s (seek P) ≡ sought_state s P) × (samples s (seek P) ≡ [])
  pub played_by_lem : (s : S) (words : List ℤ)
      → number s (play words) ≡ 0
      → (state s (play words) ≡ after s (length words)) × (samples s (play words) ≡ tabulate (length words) (λ k. newest (after s (suc k))))
  pub after_none : (s : S) → after s 0 ≡ s
  pub after_more : (s : S) (n : ℕ) → after s (suc n) ≡ next (after s n)
  pub all_none : (s : S) → all s [] ≡ []
  pub all_more : (s : S) (c : Call) (calls : List Call) → all s (c ∷ calls) ≡ samples s c ++ all (state s c) calls

-- ---- a choice by a number: 0 accepts

pub accept : {A : Type 0} {n : ℕ} (x y : A) → n ≡ 0 → cond (eqb n 0) x y ≡ x
accept x y e = rw e

turn_away : {A : Type 0} {n : ℕ} (x y : A) → (n ≡ 0 → ⊥) → cond (eqb n 0) x y ≡ y
turn_away {n = n} x y h = rw (ne_eqb n 0 h)

-- ---- the two players

pub refused_call : (b store : List ℤ) (v : Voice) (c : Call) → (call_number b store v c ≡ 0 → ⊥) → (call_voice b store v c ≡ v) × (call_samples b store v c ≡ [])
unfolding call_number call_voice call_samples order_answer seek_answer play_answer
refused_call b store v (order o) h = (turn_away _ v h, refl)
refused_call b store v (seek P) h = (turn_away _ v h, refl)
refused_call b store v (play words) h = (turn_away _ v h, turn_away _ [] h)

unfoldable pub player : (b store : List ℤ) → Player Voice
unfolding call_number call_voice call_samples order_answer seek_answer play_answer voice_after outputs handed_out
player b store = record {
  number = call_number b store;
  state = call_voice b store;
  samples = call_samples b store;
  all = handed_out b store;
  ordered_state = λ v o. record { control = ordered v.control o; history = v.history };
  sought_state = λ v P. record { control = sought v.control P; history = v.history };
  next = next_voice b store;
  after = voice_after b store;
  newest = λ v. output b v.history;
  refused = refused_call b store;
  ordered_by = λ v o h. (accept _ v h, refl);
  sought_by = λ v P h. (accept _ v h, refl);
  played_by_lem = λ v words h. (accept _ v h, rw h);
  after_none = λ v. refl;
  after_more = λ v n. refl;
  all_none = λ v. refl;
  all_more = λ v c calls. refl;
}

pub exact_refused_call : (b samples : List ℤ) (T : ℕ) (e : ExactVoice) (c : Call) → (exact_call_number b samples T e c ≡ 0 → ⊥)
    → (exact_call_voice b samples T e c ≡ e) × (exact_call_sums b samples T e c ≡ [])
unfolding exact_call_voice exact_call_sums
exact_refused_call b samples T e (order o) h = (turn_away _ e h, refl)
exact_refused_call b samples T e (seek P) h = (turn_away _ e h, refl)
exact_refused_call b samples T e (play words) h = (turn_away _ e h, turn_away _ [] h)

unfoldable pub exact : (b samples : List ℤ) (T : ℕ) → Player ExactVoice
unfolding exact_accepted exact_call_voice exact_call_sums exact_after exact_outputs exact_sums
exact b samples T = record {
  number = exact_call_number b samples T;
  state = exact_call_voice b samples T;
  samples = exact_call_sums b samples T;
  all = exact_sums b samples T;
  ordered_state = λ e o. record { control = ordered e.control o; points = e.points };
  sought_state = λ e P. record { control = sought e.control P; points = e.points };
  next = exact_next b samples T;
  after = exact_after b samples T;
  newest = λ e. exact_output b T e.points;
  refused = exact_refused_call b samples T;
  ordered_by = λ e o h. (accept _ e h, refl);
  sought_by = λ e P h. (accept _ e h, refl);
  played_by_lem = λ e words h. (accept _ e h, accept _ [] h);
  after_none = λ e. refl;
  after_more = λ e n. refl;
  all_none = λ e. refl;
  all_more = λ e c calls. refl;
}
