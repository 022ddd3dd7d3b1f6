-- The outputs that a report prints are the samples that its calls hand out. Assumes nothing.
use mathlib.Core.Path.{◌≡◌, refl, sym, ap, ap₂, subst, ◌∙◌}
use mathlib.Core.Bool.{Bool, true, false}
use mathlib.Core.List.{List, [], ◌∷◌, ◌++◌, append_assoc, append-nil}
use Prim.Native.Nat.{ℕ, ◌+◌}
use native.Mathlib.Nat.{add-zero}
use native.Mathlib.Omega.{arith}
use lib.Dec.{eqb}
use borrow.Author.Tests.{eqb-false}
use lib.IntN.{ℤ, pos}
use lib.ListN.{length, replicate, length-append}
use Rattle.control.specs.declared.Order.TheVariants.{Jump as JumpTo, Glide as GlideTo}
use Rattle.player.specs.declared.Voice.{Voice}
use Rattle.player.specs.Calls.{Answer, order_answer, seek_answer, play_answer}
use Rattle.player.specs.Outputs.{outputs}
use Rattle.drive.specs.Lists.{Call, order, seek, play, call_number, call_voice, call_samples, handed_out, end_voice}
use Rattle.drive.proofs.Players.{refused_call}
use Rattle.drive_text.specs.declared.Line.{Line}
use Rattle.drive_text.specs.declared.Line.TheVariants.{Jump, Glide, Seek, Play, Other}
use Rattle.drive_text.specs.Calls.{line_of}
use Rattle.report.specs.declared.Printed.{Printed}
use Rattle.report.specs.Printed.{plays_of, outputs_of, sum}
use Rattle.report.specs.Report.{rate, Reported, after_answer, after_play, line_report, lines_report}
use Rattle.report.specs.Whole.{calls_of, all_calls, OutputsHandedOut}

pub sum-+ : (of : Printed → ℕ) (ps qs : List Printed) → sum of (ps ++ qs) ≡ sum of ps + sum of qs
unfolding sum
sum-+ of [] qs = omega arith
sum-+ of (p ∷ ps) qs = omega (arith, sum-+ of ps qs)

module _ (b store : List ℤ) where
  -- what is reported of some calls
  abbrev Shows : Voice → Reported → List Call → Type 0
  Shows v r calls = (sum outputs_of r.printed ≡ length (handed_out b store v calls)) × (r.voice ≡ end_voice b store v calls)

  -- a call that hands out nothing: its answer's voice is the voice where it is refused
  answered : (v : Voice) (a : Answer) (t : Bool) → eqb a.number 0 ≡ t → (t ≡ false → a.voice ≡ v) → (sum outputs_of (after_answer v a).printed ≡ 0) × ((after_answer v a).voice ≡ a.voice)
  unfolding after_answer sum
  answered v a true e kept = rw e (refl, refl)
  answered v a false e kept = rw e (refl, sym (kept refl))

  play_shows : (v : Voice) (plays : ℕ) (words : List ℤ) → Shows v (after_play v plays (play_answer b store v words)) (play words ∷ [])
  unfolding after_play sum handed_out end_voice call_samples call_voice play_answer
  play_shows v plays words = go (eqb (play_answer b store v words).number 0) refl
    where
      go : (t : Bool) → eqb (play_answer b store v words).number 0 ≡ t → Shows v (after_play v plays (play_answer b store v words)) (play words ∷ [])
      go true e = let out : List ℤ = outputs b store v (length words) in rw e (add-zero (length out) ∙ ap length (sym (append-nil out)), refl)
      go false e = rw e (refl, refl)

  line_shows : (v : Voice) (plays : ℕ) (line : Line) → Shows v (line_report b store v plays line) (calls_of line)
  unfolding line_report handed_out end_voice call_number call_samples call_voice sum
  line_shows v plays (Jump a) = answered v (order_answer v (JumpTo (rate a))) _ refl (λ e. (refused_call b store v (order (JumpTo (rate a))) (eqb-false _ 0 e)).0)
  line_shows v plays (Glide a c) = answered v (order_answer v (GlideTo (rate a) c)) _ refl (λ e. (refused_call b store v (order (GlideTo (rate a) c)) (eqb-false _ 0 e)).0)
  line_shows v plays (Seek p) = answered v (seek_answer v p) _ refl (λ e. (refused_call b store v (seek p) (eqb-false _ 0 e)).0)
  line_shows v plays (Play n) = play_shows v plays (replicate n (pos 0))
  line_shows v plays Other = (refl, refl)

  -- calls one after another
  calls-++ : (v : Voice) (cs ds : List Call) → (handed_out b store v (cs ++ ds) ≡ handed_out b store v cs ++ handed_out b store (end_voice b store v cs) ds)
      × (end_voice b store v (cs ++ ds) ≡ end_voice b store (end_voice b store v cs) ds)
  unfolding handed_out end_voice
  calls-++ v [] ds = (refl, refl)
  calls-++ v (c ∷ cs) ds =
      let s = call_samples b store v c in
      let w = call_voice b store v c in
      let r = calls-++ w cs ds in
      (ap (λ l. s ++ l) r.0 ∙ sym (append_assoc s (handed_out b store w cs) (handed_out b store (end_voice b store w cs) ds)), r.1)

  lines_show : (v : Voice) (plays : ℕ) (lines : List (List ℕ)) → Shows v (lines_report b store v plays lines) (all_calls lines)
  unfolding lines_report all_calls sum handed_out end_voice
  lines_show v plays [] = (refl, refl)
  lines_show v plays (line ∷ lines) =
      let r = line_report b store v plays (line_of line) in
      let cs = calls_of (line_of line) in
      let first = line_shows v plays (line_of line) in
      let s = lines_report b store r.voice (plays + sum plays_of r.printed) lines in
      let rest : Shows (end_voice b store v cs) s (all_calls lines) = subst (λ w. Shows w s (all_calls lines)) first.1 (lines_show r.voice (plays + sum plays_of r.printed) lines) in
      let all = calls-++ v cs (all_calls lines) in (
        sum-+ outputs_of r.printed s.printed ∙ ap₂ ◌+◌ first.0 rest.0 ∙ sym (length-append (handed_out b store v cs) (handed_out b store (end_voice b store v cs) (all_calls lines))) ∙ ap length (sym all.0),
        rest.1 ∙ sym all.1,
      )

-- the outputs are those handed out, over every list of lines
pub outputs_handed_out : OutputsHandedOut
outputs_handed_out b store v lines = lines_show b store v 0 lines
