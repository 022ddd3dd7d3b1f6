-- Blocks of outputs: what holds of a voice after n outputs where it held before them. Assumes nothing.
use mathlib.Core.Path.{◌≡◌, refl, sym, ap, ◌∙◌}
use mathlib.Core.List.{List, ◌∷◌}
use Prim.Native.Nat.{ℕ, zero, suc, ◌^◌, ◌≤◌, ◌<◌}
use native.Mathlib.Decide.{dec_lt}
use native.Mathlib.Omega.{arith}
use lib.IntN.{ℤ, pos, nat_abs}
use lib.ListN.{length, take, length-take}
use lib.Seq.{take-take, get_or-take}
use Rattle.arith.specs.Lists.{at}
use Rattle.arith.proofs.Lists.{at_outside, length-tabulate, get_or-tabulate}
use Rattle.book.specs.Book.{sizes_of}
use Rattle.book.proofs.Accepted.{Accepted}
use Rattle.player.specs.declared.Voice.{Voice}
use Rattle.control.specs.declared.Control.{Control}
use Rattle.control.specs.declared.Plan.{Plan}
use Rattle.control.specs.Moves.{move_glide, move_point, point_plan}
use Rattle.player.specs.Outputs.{push, push_two, next_voice, voice_after, outputs}
use Rattle.decimation.specs.Decimation.{output}
use Rattle.points.specs.Points.{point}
use Rattle.control.specs.Valid.{Valid}
use Rattle.control.proofs.Kept.{move_glide_valid, move_point_valid, move_output_valid, move_output_top}
use Rattle.player.proofs.Histories.{push_two_all}
use Rattle.refusals.proofs.Valid.{Within}
use Rattle.points.proofs.Points.{point_small}

-- ---- the history after an output

-- two points leave only the first 79 words
first_words : (make : Plan → ℤ) (F : ℕ) (c : Control) (h : List ℤ) → push_two make F c h ≡ push_two make F c (take 81 h)
unfolding push_two push
first_words make F c h =
    let x = make (point_plan (move_glide c)) in
    let y = make (point_plan (move_point F (move_glide c))) in
    ap (λ t. push y (x ∷ t)) (sym (take-take 80 81 h (omega arith)))

-- past the first 81 words nothing is left to bound
words_within : (bound : ℕ) (h : List ℤ) → Within bound h → (k : ℕ) → nat_abs (at (take 81 h) k) ≤ bound
words_within bound h w k = go (dec_lt k 81)
  where
    go : Dec (k < 81) → nat_abs (at (take 81 h) k) ≤ bound
    go (yes l) = rw (get_or-take 81 h k (pos 0) l) (w k l)
    go (no l) = rw (at_outside (take 81 h) k (simp length-take (omega arith))) (omega arith)

module _ (b store : List ℤ) where
  next_small : Accepted b → (v : Voice) → Valid (sizes_of b).fade v.control → Within (2 ^ 29) v.history
      → (k : ℕ) → nat_abs (at (next_voice b store v).history k) ≤ 2 ^ 29
  unfolding next_voice
  next_small a v s w k =
      let F = (sizes_of b).fade in
      let one = move_glide_valid s in
      rw (first_words (point b store) F v.control v.history)
      (push_two_all (λ x. nat_abs x ≤ 2 ^ 29) (point b store) F v.control (take 81 v.history) (omega arith) (point_small b store a one) (point_small b store a (move_point_valid one)) (words_within (2 ^ 29) v.history w) k)

-- ---- n outputs

module _ (b store : List ℤ) (v : Voice) where
  after_top : (n : ℕ) → (voice_after b store v n).control.top ≡ v.control.top
  unfolding voice_after next_voice
  after_top zero = refl
  after_top (suc n) = move_output_top (sizes_of b).fade (voice_after b store v n).control ∙ after_top n

  after_valid : Valid (sizes_of b).fade v.control → (n : ℕ) → Valid (sizes_of b).fade (voice_after b store v n).control
  unfolding voice_after next_voice
  after_valid s zero = s
  after_valid s (suc n) = move_output_valid (after_valid s n)

  -- as the next output asks for it
  pub after_ready : (n : ℕ) → Valid (sizes_of b).fade v.control → Valid (sizes_of b).fade (voice_after b store v n).control × ((voice_after b store v n).control.top ≡ v.control.top)
  after_ready n s = (after_valid s n, after_top n)

  module _ (a : Accepted b) (s : Valid (sizes_of b).fade v.control) (w : Within (2 ^ 29) v.history) where
    pub after_within : (n : ℕ) → Within (2 ^ 29) (voice_after b store v n).history
    unfolding voice_after
    after_within zero = w
    after_within (suc n) = λ k l. next_small b store a (voice_after b store v n) (after_valid s n) (after_within n) k

  pub length-outputs : (n : ℕ) → length (outputs b store v n) ≡ n
  unfolding outputs
  length-outputs n = length-tabulate n (λ k. output b (voice_after b store v (suc k)).history)

  pub at-outputs : (n k : ℕ) → k < n → at (outputs b store v n) k ≡ output b (voice_after b store v (suc k)).history
  unfolding outputs
  at-outputs n k h = get_or-tabulate n (λ k. output b (voice_after b store v (suc k)).history) k (pos 0) h
