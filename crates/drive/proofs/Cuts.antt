-- The last sentence of demand 3: how a list cuts its samples into plays changes neither the samples nor the voice at its end. For every
-- voice, book and store; assumes nothing.
use mathlib.Core.Path.{◌≡◌, refl, ap, ◌∙◌}
use mathlib.Core.List.{List, [], ◌∷◌, ◌++◌, append_assoc, append-nil}
use Prim.Native.Nat.{ℕ, zero, suc, ◌+◌, ◌-◌}
use native.Mathlib.Nat.{add-zero, add-suc, suc-add, add_assoc, zero-add}
use native.Mathlib.Omega.{arith}
use native.Mathlib.Decide.{ℕ_discrete}
use borrow.Author.Tests.{ne_eqb}
use lib.IntN.{ℤ}
use lib.ListN.{length, length-append}
use Rattle.arith.specs.Lists.{tabulate}
use Rattle.arith.proofs.Lists.{tabulate_ext}
use Rattle.player.specs.declared.Voice.{Voice}
use Rattle.decimation.specs.Decimation.{output}
use Rattle.player.specs.Outputs.{voice_after, outputs}
use Rattle.player.proofs.Blocks.{length-outputs}
use Rattle.player.proofs.Filled.{voice_after-+}
use Rattle.drive.specs.Lists.{Call, order, seek, play, call_number, call_voice, call_samples, end_voice, handed_out, Mark, is_play, marks}
use Rattle.drive.proofs.Players.{player}

-- ---- a list made by a rule, in two parts

tabulate-+ : {A : Type 0} (m n : ℕ) (f : ℕ → A) → tabulate (m + n) f ≡ tabulate m f ++ tabulate n (λ k. f (m + k))
unfolding tabulate
tabulate-+ zero n f = simp zero-add
tabulate-+ (suc m) n f = simp suc-add (ap (λ zs. f 0 ∷ zs) (tabulate-+ m n (λ k. f (suc k))))

-- ---- what a list hands out, and the voice that it leaves

abbrev Heard : Type 0
Heard = List ℤ × Voice

-- with more samples before it
abbrev heard_after : List ℤ → Heard → Heard
heard_after xs h = (xs ++ h.0, h.1)

module _ (b store : List ℤ) where
  -- ---- outputs one after another

  pub outputs-+ : (v : Voice) (m n : ℕ) → outputs b store v (m + n) ≡ outputs b store v m ++ outputs b store (voice_after b store v m) n
  unfolding outputs
  outputs-+ v m n = tabulate-+ m n (λ k. output b (voice_after b store v (suc k)).history) ∙ ap (λ zs. outputs b store v m ++ zs) (tabulate_ext n (λ k h. later k))
    where
      later : (k : ℕ) → output b (voice_after b store v (suc (m + k))).history ≡ output b (voice_after b store (voice_after b store v m) (suc k)).history
      later k = rw (← add-suc, voice_after-+ b store)

  -- ---- what a list's first call does: it makes k outputs and has no mark, or it hands out nothing and has one

  -- the marks of the calls after it, where n samples were handed out before it
  abbrev later_marks : Voice → Call → ℕ → List Call → List Mark
  later_marks v c n calls = marks b store (call_voice b store v c) (n + length (call_samples b store v c)) calls

  data Does (v : Voice) (c : Call) : Type 0 where
    makes : (k : ℕ)
        → call_voice b store v c ≡ voice_after b store v k
        → call_samples b store v c ≡ outputs b store v k
        → ((n : ℕ) (calls : List Call) → marks b store v n (c ∷ calls) ≡ later_marks v c n calls)
        → Does v c
    acts : call_samples b store v c ≡ []
        → ((n : ℕ) (calls : List Call) → marks b store v n (c ∷ calls) ≡ record { before = n; call = c } ∷ later_marks v c n calls)
        → Does v c

  does : (v : Voice) (c : Call) → Does v c
  unfolding marks is_play voice_after outputs tabulate player
  does v c = go c (ℕ_discrete (call_number b store v c) 0)
    where
      unmarked : (c : Call) → (call_number b store v c ≡ 0 → ⊥) → (n : ℕ) (calls : List Call) → marks b store v n (c ∷ calls) ≡ later_marks v c n calls
      unmarked (order o) h n calls = rw ne_eqb
      unmarked (seek P) h n calls = rw ne_eqb
      unmarked (play words) h n calls = refl

      go : (c : Call) → Dec (call_number b store v c ≡ 0) → Does v c
      go (order o) (yes h) = acts ((player b store).ordered_by v o h).1 (λ n calls. rw h)
      go (seek P) (yes h) = acts ((player b store).sought_by v P h).1 (λ n calls. rw h)
      go (play words) (yes h) = let played = (player b store).played_by_lem v words h in makes (length words) played.0 played.1 (λ n calls. refl)
      go c (no h) = let refused = (player b store).refused v c h in makes 0 refused.0 refused.1 (unmarked c h)

  -- ---- a list is the replay of its marks

  -- from voice v after n samples: outputs up to each mark, then its call, and at last outputs up to the total
  replay : Voice → ℕ → List Mark → ℕ → Heard
  replay v n [] total = (outputs b store v (total - n), voice_after b store v (total - n))
  replay v n (m ∷ ms) total =
      let k = m.before - n in
      heard_after (outputs b store v k) (replay (call_voice b store (voice_after b store v k) m.call) m.before ms total)

  abbrev run : Voice → List Call → Heard
  run v calls = (handed_out b store v calls, end_voice b store v calls)

  -- a list that goes on k outputs after voice v, which came after n samples
  abbrev Replayed : Voice → ℕ → ℕ → List Call → Type 0
  Replayed v n k calls =
      let u = voice_after b store v k in
      heard_after (outputs b store v k) (run u calls) ≡ replay v n (marks b store u (n + k) calls) (n + k + length (handed_out b store u calls))

  replayed : (calls : List Call) (v : Voice) (n k : ℕ) → Replayed v n k calls
  unfolding replay handed_out end_voice marks voice_after outputs tabulate
  replayed [] v n k = let e : n + k + 0 - n ≡ k = omega arith in rw (e, append-nil)
  replayed (c ∷ calls) v n k = go (does (voice_after b store v k) c) (replayed calls)
    where
      go : Does (voice_after b store v k) c → ((v : Voice) (n k : ℕ) → Replayed v n k calls) → Replayed v n k (c ∷ calls)
      go (makes j same-voice same-samples unmarked) rest =
          rw (unmarked (n + k) calls, same-voice, same-samples, ← voice_after-+ b store v k j, ← append_assoc, ← outputs-+ v k j)
          (simp (length-append, length-outputs b store, add_assoc) (simp add_assoc at (rest v n (k + j))))
      go (acts none marked) rest =
          let u = call_voice b store (voice_after b store v k) c in
          let e : n + k - n ≡ k = omega arith in
          rw (marked (n + k) calls, none, e, add-zero) (ap (heard_after (outputs b store v k)) (simp add-zero at (rest u (n + k) 0)))

  -- so the marks and the total alone decide what is handed out and left
  pub same_cuts : (v : Voice) (calls calls' : List Call)
      → marks b store v 0 calls ≡ marks b store v 0 calls'
      → length (handed_out b store v calls) ≡ length (handed_out b store v calls')
      → (handed_out b store v calls ≡ handed_out b store v calls') × (end_voice b store v calls ≡ end_voice b store v calls')
  unfolding voice_after outputs tabulate
  same_cuts v calls calls' e l =
      let same : run v calls ≡ run v calls' = cc (replayed calls v 0 0, replayed calls' v 0 0) in
      (ap (λ h. h.0) same, ap (λ h. h.1) same)
