-- The drive report (document 02, (f)): lines of another form and refused ones are passed over; totals are the sums over the printed lines.
use Rattle.std.specs.Prelude.{cond, List, [], ◌∷◌, ◌++◌, ℕ, ◌+◌, eqb, Float, ℤ, pos, length, replicate}
use Rattle.control.specs.declared.Order.TheVariants.{Jump as JumpTo, Glide as GlideTo}
use Rattle.player.specs.declared.Voice.{Voice}
use Rattle.player.specs.Calls.{Answer, Played, order_answer, seek_answer, play_answer}
use Rattle.test_setting.specs.Setting.{fraction, test_setting}
use Rattle.drive_text.specs.declared.Line.{Line}
use Rattle.drive_text.specs.declared.Line.TheVariants.{Jump, Glide, Seek, Play, Other}
use Rattle.drive_text.specs.Lines.{input_lines}
use Rattle.drive_text.specs.Calls.{line_of}
use Rattle.report.specs.declared.Printed.{Printed}
use Rattle.report.specs.declared.Printed.TheVariants.{Refused as refused, Played as played}
use Rattle.report.specs.Printed.{lines_text, total_text, plays_of, outputs_of, multiplies_of, sum}

-- rate a/256
abbrev pub rate : ℕ → Float
rate a = fraction a 256

-- the voice after a line or some, and what they print
pub record Reported : Type 0 where
  pub voice : Voice
  pub printed : List Printed

abbrev pub reported : Voice → List Printed → Reported
reported v lines = record { voice = v; printed = lines }

-- passed over
abbrev pub passed_over : Voice → Reported
passed_over v = reported v (refused ∷ [])

-- an order or a seek that was answered
unfoldable pub after_answer : Voice → Answer → Reported
after_answer v a = cond (eqb a.number 0) (reported a.voice []) (passed_over v)

-- a play, after so many accepted ones: the outputs are those handed out, and in a fade the current level is the old one
unfoldable pub after_play : Voice → ℕ → Played → Reported
after_play v plays p =
    cond (eqb p.number 0)
    (reported p.voice (played (plays + 1) (length p.words) p.multiplies p.voice.control.fade.from ∷ []))
    (passed_over v)

-- each line on its book, its store and its voice
module _ (b store : List ℤ) where
  unfoldable pub line_report : Voice → ℕ → Line → Reported
  line_report v plays (Jump a) = after_answer v (order_answer v (JumpTo (rate a)))
  line_report v plays (Glide a c) = after_answer v (order_answer v (GlideTo (rate a) c))
  line_report v plays (Seek p) = after_answer v (seek_answer v p)
  line_report v plays (Play n) = after_play v plays (play_answer b store v (replicate n (pos 0)))
  line_report v plays Other = passed_over v

  -- lines one after another
  unfoldable pub lines_report : Voice → ℕ → List (List ℕ) → Reported
  lines_report v plays [] = reported v []
  lines_report v plays (line ∷ lines) =
      let r = line_report v plays (line_of line) in
      let s = lines_report r.voice (plays + sum plays_of r.printed) lines in
      reported s.voice (r.printed ++ s.printed)

  -- what an input prints
  unfoldable pub report : Voice → List ℕ → List ℕ
  report v input =
      let lines = (lines_report v 0 (input_lines input)).printed in
      lines_text lines ++ total_text (sum outputs_of lines) (sum multiplies_of lines)

-- on the hum, book and opening of (b)
abbrev pub drive_report : List ℕ → List ℕ
drive_report input = let s = test_setting in report s.book s.store s.voice input
