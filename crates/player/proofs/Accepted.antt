-- What holds of book, store and voice where no number of play is given, and that fewer outputs, or some later ones, are accepted too. Assumes nothing.
use mathlib.Core.Path.{◌≡◌, ◌∙◌}
use mathlib.Core.List.{List}
use Prim.Native.Nat.{ℕ, ◌^◌, ◌≤◌}
use native.Mathlib.Omega.{arith}
use borrow.Author.Tests.{le-ltb}
use lib.IntN.{ℤ}
use Rattle.book.specs.Book.{sizes_of}
use Rattle.refusal.specs.Number.{◌otherwise◌, refuse}
use Rattle.book.specs.Check.{book_number}
use Rattle.refusal.proofs.Numbers.{none_first, none_second}
use Rattle.book.proofs.Accepted.{accepted}
use Rattle.store.specs.Store.{top_level}
use Rattle.store.specs.Check.{store_number}
use Rattle.control.specs.Valid.{Valid}
use Rattle.player.specs.declared.Voice.{Voice}
use Rattle.player.specs.Outputs.{voice_after}
use Rattle.refusals.specs.Refusals.{output_count_wrong, play_state_number, play_number, point_bound}
use Rattle.refusals.proofs.Valid.{Within, same_top, valid_of, history_of, count_of, play_number_lem}
use Rattle.player.proofs.Blocks.{after_ready, after_within}

-- the number of a play of n outputs
abbrev pub number_of : List ℤ → List ℤ → Voice → ℕ → ℕ
number_of b store v n = play_number b store v.control point_bound v.history n

pub record PlayAccepted (b store : List ℤ) (v : Voice) (n : ℕ) : Type 0 where
  pub book_accepted : book_number b ≡ 0
  pub store_accepted : store_number store ≡ 0
  pub top : v.control.top ≡ top_level store
  pub valid : Valid (sizes_of b).fade v.control
  pub within : Within (2 ^ 29) v.history
  pub few : n ≤ 1048576

pub play_accepted : (b store : List ℤ) (v : Voice) (n : ℕ) → number_of b store v n ≡ 0 → PlayAccepted b store v n
unfolding play_number
play_accepted b store v n e =
    let state = play_state_number (sizes_of b).fade (top_level store) v.control point_bound v.history n in
    let past-book : store_number store otherwise state ≡ 0 = none_second (book_number b) _ e in
    let past-store : state ≡ 0 = none_second (store_number store) _ past-book in
    record {
      book_accepted = none_first _ _ e;
      store_accepted = none_first _ _ past-book;
      top = same_top _ _ _ _ _ _ past-store;
      valid = valid_of _ _ _ _ _ _ past-store;
      within = history_of _ _ _ _ _ _ past-store;
      few = count_of _ _ _ _ _ _ past-store;
    }

-- after some outputs, no more than n of them are accepted
pub accepted_later : {b store : List ℤ} {v : Voice} {n : ℕ} → PlayAccepted b store v n → (m k : ℕ) → k ≤ n → number_of b store (voice_after b store v m) k ≡ 0
unfolding play_number output_count_wrong refuse ◌otherwise◌
accepted_later {b} {store} {v} a m k h =
    let ready = after_ready b store v m a.valid in
    let within = after_within b store v (accepted b a.book_accepted) a.valid a.within m in
    let state = play_number_lem ready.0 point_bound (voice_after b store v m).history within (top_level store) k (ready.1 ∙ a.top) in
    rw (a.book_accepted, a.store_accepted, state, le-ltb 1048576 k (omega (arith, a.few)))
