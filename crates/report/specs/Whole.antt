-- What the calls of this crate print over an input that comes in pieces: the statements that `Theorem` and `HandedOut` (proofs) prove.
use Rattle.std.specs.Prelude.{◌≡◌, List, [], ◌∷◌, ◌++◌, ℕ, ◌≤◌, ℤ, pos, length, replicate}
use Rattle.control.specs.declared.Order.TheVariants.{Jump as JumpTo, Glide as GlideTo}
use Rattle.player.specs.declared.Voice.{Voice}
use Rattle.drive.specs.Lists.{Call, order, seek, play, handed_out, end_voice}
use Rattle.drive_text.specs.declared.Line.{Line}
use Rattle.drive_text.specs.declared.Line.TheVariants.{Jump, Glide, Seek, Play, Other}
use Rattle.drive_text.specs.Calls.{line_of}
use Rattle.report.specs.declared.Report.{Report}
use Rattle.report.specs.Printed.{outputs_of, sum}
use Rattle.report.specs.Report.{rate, lines_report, report}
use Rattle.report.specs.Inner.{Step, behind, piece_limit, fresh_report, read_piece, end_text}

-- the input that pieces are cut from
unfoldable pub joined : List (List ℕ) → List ℕ
joined [] = []
joined (piece ∷ pieces) = piece ++ joined pieces

-- each is of at most so many bytes as a call reads
abbrev pub Short : List (List ℕ) → Type 0
Short [] = Unit
Short (piece ∷ pieces) = (length piece ≤ piece_limit) × Short pieces

module _ (b store : List ℤ) where
  -- a read for each piece
  unfoldable pub read_pieces : Report → List (List ℕ) → Step
  read_pieces r [] = record { report = r; text = [] }
  read_pieces r (piece ∷ pieces) = let s = read_piece b store r piece in behind s.text (read_pieces s.report pieces)

  -- and the end
  unfoldable pub all_text : Report → List (List ℕ) → List ℕ
  all_text r pieces = let s = read_pieces r pieces in s.text ++ end_text b store s.report

-- however an input is cut, what is printed is its report
abbrev pub PiecesReport : Type 0
PiecesReport = (b store : List ℤ) (v : Voice) (pieces : List (List ℕ)) → Short pieces → all_text b store (fresh_report v) pieces ≡ report b store v (joined pieces)

-- ---- the calls of a drive, as demand 3 lists them

abbrev pub calls_of : Line → List Call
calls_of (Jump a) = order (JumpTo (rate a)) ∷ []
calls_of (Glide a c) = order (GlideTo (rate a) c) ∷ []
calls_of (Seek p) = seek p ∷ []
calls_of (Play n) = play (replicate n (pos 0)) ∷ []
calls_of Other = []

unfoldable pub all_calls : List (List ℕ) → List Call
all_calls [] = []
all_calls (line ∷ lines) = calls_of (line_of line) ++ all_calls lines

-- the outputs of the printed lines are the samples handed out, and the report ends with the voice that the calls end with
abbrev pub OutputsHandedOut : Type 0
OutputsHandedOut =
    (b store : List ℤ) (v : Voice) (lines : List (List ℕ))
    → let r = lines_report b store v 0 lines in
    (sum outputs_of r.printed ≡ length (handed_out b store v (all_calls lines))) × (r.voice ≡ end_voice b store v (all_calls lines))
