-- What a filled block says after i outputs, and that a run more keeps it. Assumes nothing.
use mathlib.Core.Path.{◌≡◌, sym, ap, ◌∙◌}
use mathlib.Core.List.{List, ◌++◌}
use Prim.Native.Nat.{ℕ, zero, suc, ◌+◌, ◌-◌, ◌*◌, ◌^◌, ◌≤◌, ◌<◌}
use native.Mathlib.Nat.{add-zero, add-suc}
use native.Mathlib.Omega.{arith}
use lib.IntN.{ℤ, pos, nat_abs}
use lib.ListN.{length, take, drop, replicate, length-replicate}
use lib.Seq.{paste, length-paste, take_all, drop-drop}
use Rattle.arith.specs.Lists.{at, part, tabulate, overwrite}
use Rattle.arith.proofs.Lists.{part_length}
use Rattle.arith.proofs.Parts.{paste_run, length-overwrite, drop-overwrite, overwrite_end, overwrite-every, take-every, drop-every, zeros_every}
use Rattle.book.specs.Book.{sizes_of}
use Rattle.book.proofs.Accepted.{Accepted}
use Rattle.control.specs.declared.Control.{Control}
use Rattle.control.specs.declared.Plan.{Plan}
use Rattle.player.specs.declared.Voice.{Voice}
use Rattle.points.specs.Points.{point}
use Rattle.control.specs.Valid.{Valid}
use Rattle.decimation.specs.Decimation.{output}
use Rattle.player.specs.Outputs.{next_voice, voice_after, outputs}
use Rattle.positions.specs.Runs.{control_after}
use Rattle.points.specs.Runs.{run_points}
use Rattle.multiplies.specs.Inner.{run_values}
use Rattle.multiplies.proofs.Multiplies.{values-+}
use Rattle.player.specs.Inner.{line_of}
use Rattle.control.proofs.Kept.{move_glide_valid, move_point_valid, move_output_valid}
use Rattle.player.proofs.Histories.{length-push_two}
use Rattle.points.proofs.Points.{point_small}
use Rattle.player.proofs.Blocks.{after_ready, length-outputs, at-outputs}
use Rattle.player.proofs.RunPoints.{control_after_lem, history_after}
use Rattle.points.proofs.RunPoints.{length_run, run_all, run_drop}

-- ---- the line

pub line_every : (Q : ℤ → Type 0) → Q (pos 0) → (h : List ℤ) → ((k : ℕ) → Q (at h k)) → (k : ℕ) → Q (at (line_of h) k)
unfolding line_of
line_every Q none h g = overwrite-every Q none (replicate 209 (pos 0)) h 128 (zeros_every Q none 209) g

module _ (h : List ℤ) (l : length h ≡ 81) where
  pub length_line : length (line_of h) ≡ 209
  unfolding line_of
  length_line = length-overwrite (replicate 209 (pos 0)) h 128 (omega (arith, l)) ∙ length-replicate 209 (pos 0)

  pub line_history : drop 128 (line_of h) ≡ h
  unfolding line_of
  line_history = overwrite_end (replicate 209 (pos 0)) h 128 (omega (arith, l))

-- ---- a run along a line

module _ (b store : List ℤ) (w : Voice) (l : length w.history ≡ 81) (line : List ℤ) (long : length line ≡ 209) (kept : drop 128 line ≡ w.history) where
  abbrev F : ℕ
  F = (sizes_of b).fade

  abbrev run : ℕ → List ℤ
  run = run_points (point b store) F w.control

  -- the line with the points of n outputs
  abbrev written : ℕ → List ℤ
  written n = overwrite line (128 - 2 * n) (run n)

  -- the points of m of them, and the history behind
  behind : (m d : ℕ) → d + m ≤ 64 → drop (128 - 2 * m) (written (d + m)) ≡ run m ++ w.history
  behind m d h =
      let n : ℕ = d + m in
      let r = length_run (point b store) F w.control n in
      let e : 128 - 2 * n + 2 * d ≡ 128 - 2 * m = omega arith in
      let front : 128 - 2 * n + length (run n) ≡ 128 = omega (arith, r) in
      sym (ap (λ k. drop k (written n)) e)
      ∙ sym (drop-drop (2 * d) (128 - 2 * n) (written n))
      ∙ ap (drop (2 * d)) ((drop-overwrite line (run n) (128 - 2 * n) (omega (arith, long)) ∙ ap (λ k. run n ++ drop k line) front))
      ∙ ap (λ t. drop (2 * d) (run n ++ t)) kept
      ∙ run_drop (point b store) F w.control m d w.history

  pub history_written : (m d : ℕ) → d + m ≤ 64 → part (written (d + m)) (128 - 2 * m) 81 ≡ (voice_after b store w m).history
  history_written m d h = ap (take 81) (behind m d h) ∙ sym (history_after b store w m (take_all 81 w.history (omega (arith, l))))

  pub length_written : (n : ℕ) → n ≤ 64 → length (written n) ≡ 209
  length_written n h =
      let r = length_run (point b store) F w.control n in
      length-overwrite line (run n) (128 - 2 * n) (omega (arith, r, long)) ∙ long

  -- every word of it is small
  module _ (a : Accepted b) (s : Valid F w.control) (small : (k : ℕ) → nat_abs (at line k) ≤ 2 ^ 29) where
    control_valid : (n : ℕ) → Valid F (control_after F w.control n)
    unfolding control_after
    control_valid zero = s
    control_valid (suc n) = move_output_valid (control_valid n)

    pub written_small : (n k : ℕ) → nat_abs (at (written n) k) ≤ 2 ^ 29
    written_small n =
        let none : nat_abs (pos 0) ≤ 2 ^ 29 = omega arith in
        let Small : ℤ → Type 0 = λ x. nat_abs x ≤ 2 ^ 29 in
        overwrite-every Small none line (run n) (128 - 2 * n) small
        (run_all (point b store) F w.control Small n
        (λ k h. let one = move_glide_valid (control_valid k) in (point_small b store a one, point_small b store a (move_point_valid one)))
        none)

-- ---- a block

pub record Filled (b store : List ℤ) (v : Voice) (out₀ : List ℤ) (d : Control) (line out : List ℤ) (i : ℕ) : Type 0 where
  pub count : i ≤ length out₀
  pub control : d ≡ (voice_after b store v i).control
  pub long : length line ≡ 209
  pub points : drop 128 line ≡ (voice_after b store v i).history
  pub small : (k : ℕ) → nat_abs (at line k) ≤ 2 ^ 29
  pub words : out ≡ paste out₀ 0 (outputs b store v (length out₀)) i

module _ (b store : List ℤ) where
  pub voice_after-+ : (v : Voice) (m n : ℕ) → voice_after b store v (m + n) ≡ voice_after b store (voice_after b store v m) n
  unfolding voice_after
  voice_after-+ v m zero = rw add-zero
  voice_after-+ v m (suc n) = rw add-suc (ap (next_voice b store) (voice_after-+ v m n))

  length_history : (v : Voice) → length v.history ≡ 81 → (n : ℕ) → length (voice_after b store v n).history ≡ 81
  unfolding voice_after next_voice
  length_history v l zero = l
  length_history v l (suc n) = length-push_two (point b store) (sizes_of b).fade (voice_after b store v n).control (voice_after b store v n).history (length_history v l n)

-- a run of n outputs more
module _ {b store : List ℤ} {v : Voice} {out₀ : List ℤ} {d : Control} {line out : List ℤ} {i : ℕ} (p : Filled b store v out₀ d line out i) (l : length v.history ≡ 81) where
  abbrev w : Voice
  w = voice_after b store v i

  w_length : length w.history ≡ 81
  w_length = length_history b store v l i

  abbrev make : Plan → ℤ
  make = point b store

  -- the line that the run leaves
  line_is : {line₁ : List ℤ} (n : ℕ) → line₁ ≡ overwrite line (128 - 2 * n) (run_points make (sizes_of b).fade d n) → line₁ ≡ written b store w w_length line p.long p.points n
  line_is n e = e ∙ ap (λ c. overwrite line (128 - 2 * n) (run_points make (sizes_of b).fade c n)) p.control

  -- every word of it is small
  pub run_small : Accepted b → Valid (sizes_of b).fade v.control → {line₁ : List ℤ} (n : ℕ) → line₁ ≡ overwrite line (128 - 2 * n) (run_points make (sizes_of b).fade d n)
      → (k : ℕ) → nat_abs (at line₁ k) ≤ 2 ^ 29
  run_small a s n e k =
      let valid = (after_ready b store v i s).0 in
      rw (line_is n e) (written_small b store w w_length line p.long p.points a valid p.small n k)

  module _ (n : ℕ) (few : n ≤ 64) (room : i + n ≤ length out₀) {line₁ : List ℤ} (line_e : line₁ ≡ overwrite line (128 - 2 * n) (run_points make (sizes_of b).fade d n)) where
    -- the history after m of the run's outputs
    after : (m k : ℕ) → k + m ≡ n → part line₁ (128 - 2 * m) 81 ≡ (voice_after b store v (i + m)).history
    after m k e =
        ap (λ x. part x (128 - 2 * m) 81) (line_is n line_e ∙ ap (written b store w w_length line p.long p.points) (sym e))
        ∙ history_written b store w w_length line p.long p.points m k (omega (arith, e))
        ∙ ap (λ u. u.history) (sym (voice_after-+ b store v i m))

    -- and the outputs of each
    output_is : (k : ℕ) → k < n → output b (part line₁ (126 - 2 * k) 81) ≡ at (outputs b store v (length out₀)) (i + k)
    output_is k h =
        let e : 126 - 2 * k ≡ 128 - 2 * suc k = omega arith in
        let r : n - suc k + suc k ≡ n = omega arith in
        ap (λ a. output b (part line₁ a 81)) e
        ∙ ap (output b) (after (suc k) (n - suc k) r)
        ∙ ap (λ m. output b (voice_after b store v m).history) (add-suc i k)
        ∙ sym (at-outputs b store v (length out₀) (i + k) (omega arith))

    abbrev newest : List ℤ
    newest = part line₁ (128 - 2 * n) 81

    pub line_long : length line₁ ≡ 209
    line_long = ap length (line_is n line_e) ∙ length_written b store w w_length line p.long p.points n few

    newest_length : length newest ≡ 81
    newest_length = part_length line₁ (128 - 2 * n) 81 (omega (arith, line_long))

    pub filled_more : {line₂ out₁ : List ℤ} {d₁ : Control} → ((k : ℕ) → nat_abs (at line₁ k) ≤ 2 ^ 29) → d₁ ≡ control_after (sizes_of b).fade d n
        → out₁ ≡ overwrite out i (tabulate n (λ k. output b (part line₁ (126 - 2 * k) 81))) → line₂ ≡ overwrite line₁ 128 newest → Filled b store v out₀ d₁ line₂ out₁ (i + n)
    filled_more small control words points =
        let Small : ℤ → Type 0 = λ x. nat_abs x ≤ 2 ^ 29 in
        let none : Small (pos 0) = omega arith in
        record {
          count = room;
          control = control
              ∙ ap (λ c. control_after (sizes_of b).fade c n) p.control
              ∙ sym (control_after_lem b store w n)
              ∙ ap (λ u. u.control) (sym (voice_after-+ b store v i n));
          long = ap length points ∙ length-overwrite line₁ newest 128 (omega (arith, newest_length, line_long)) ∙ line_long;
          points = ap (drop 128) points ∙ overwrite_end line₁ newest 128 (omega (arith, newest_length, line_long)) ∙ after n 0 (omega arith);
          small = rw points (overwrite-every Small none line₁ newest 128 small (take-every Small none 81 (drop (128 - 2 * n) line₁) (drop-every Small none (128 - 2 * n) line₁ small)));
          words = words
              ∙ ap (λ o. overwrite o i (tabulate n (λ k. output b (part line₁ (126 - 2 * k) 81)))) p.words
              ∙ paste_run out₀ (outputs b store v (length out₀)) i n _ room (omega (arith, length-outputs b store v (length out₀))) output_is;
        }

-- the level values of a run of n outputs more
pub values_more : {b store : List ℤ} {v : Voice} {out₀ : List ℤ} {d : Control} {line out : List ℤ} {i : ℕ} → Filled b store v out₀ d line out i → (n : ℕ)
    → let F = (sizes_of b).fade in run_values F v.control i + run_values F d n ≡ run_values F v.control (i + n)
values_more {b} {store} {v} {i = i} p n =
    let F = (sizes_of b).fade in
    ap (λ c. run_values F v.control i + run_values F c n) (p.control ∙ control_after_lem b store v i) ∙ sym (values-+ F v.control i n)

-- ---- what the next run asks for

pub filled_length : {b store : List ℤ} {v : Voice} {out₀ : List ℤ} {d : Control} {line out : List ℤ} {i : ℕ} → Filled b store v out₀ d line out i → length out ≡ length out₀
filled_length {b} {store} {v} {out₀} {i = i} p =
    ap length p.words ∙ length-paste out₀ 0 (outputs b store v (length out₀)) i (omega (arith, p.count)) (omega (arith, p.count, length-outputs b store v (length out₀)))

pub filled_ready : {b store : List ℤ} {v : Voice} {out₀ : List ℤ} {d : Control} {line out : List ℤ} {i : ℕ} → Filled b store v out₀ d line out i
    → Valid (sizes_of b).fade v.control → Valid (sizes_of b).fade d × (d.top ≡ v.control.top)
filled_ready {b} {store} {v} {i = i} p s = rw p.control (after_ready b store v i s)

-- ---- the voice at the end

pub end_history : {b store : List ℤ} {v : Voice} {out₀ : List ℤ} {d : Control} {line out : List ℤ} {i : ℕ} → Filled b store v out₀ d line out i → length v.history ≡ 81
    → part line 128 81 ≡ (voice_after b store v i).history
end_history {b} {store} {v} {i = i} p l = ap (take 81) p.points ∙ take_all 81 (voice_after b store v i).history (omega (arith, length_history b store v l i))
