-- Definitions that only inner functions' contracts cite: no rule of document 02, but a step of the code that computes one. Bytes are read one
-- after another; totals are kept in 64 bits, and the count of plays in 32. `Totals` (proofs) says that no input reaches these.
use Rattle.std.specs.Prelude.{cond, Option, List, [], ◌∷◌, ◌++◌, ◌≡◌, ℕ, ◌+◌, ◌-◌, ◌^◌, ◌≤◌, min, eqb, ℤ, pos, length, take, replicate}
use Rattle.std.specs.Option.{option_to_list}
use Rattle.arrayvec.specs.ArrayString.{ArrayString, array_string_len}
use Rattle.player.specs.declared.Voice.{Voice}
use Rattle.drive_text.specs.declared.Line.{Line}
use Rattle.drive_text.specs.declared.Line.TheVariants.{Jump, Glide, Seek, Play, Other}
use Rattle.drive_text.specs.declared.Scan.TheVariants.{Fresh}
use Rattle.drive_text.specs.Lines.{line_end, input_limit}
use Rattle.drive_text.specs.Calls.{output_limit}
use Rattle.drive_text.specs.Inner.{next_scan, is_begun, scanned_line}
use Rattle.report.specs.declared.TheConstants.{TEXT_BYTES}
use Rattle.report.specs.declared.Drive.{Drive}
use Rattle.report.specs.declared.Report.{Report}
use Rattle.report.specs.declared.Printed.{Printed}
use Rattle.report.specs.declared.Printed.TheVariants.{Refused as refused, Played as played}
use Rattle.report.specs.Printed.{lines_text, total_text}
use Rattle.report.specs.Report.{Reported, line_report}

-- the largest number of 32 bits, and of 64
abbrev pub largest32 : ℕ
largest32 = 2 ^ 32 - 1

abbrev pub largest64 : ℕ
largest64 = 2 ^ 64 - 1

-- nothing played yet
unfoldable pub fresh_drive : Voice → Drive
fresh_drive v = record { voice = v; plays = 0; outputs = 0; multiplies = 0 }

-- a drive whose counts have a printed line more
unfoldable pub counted : Drive → List Printed → Drive
counted d [] = d
counted d (refused ∷ lines) = counted d lines
counted d (played number outputs multiplies level ∷ lines) =
    counted
    (record {
      voice = d.voice;
      plays = min (d.plays + 1) largest32;
      outputs = min (d.outputs + outputs) largest64;
      multiplies = min (d.multiplies + multiplies) largest64;
    })
    lines

-- a drive after lines that were reported
unfoldable pub tallied : Drive → Reported → Drive
tallied d r = let t = counted d r.printed in record { voice = r.voice; plays = t.plays; outputs = t.outputs; multiplies = t.multiplies }

-- what a line leaves: the drive after what it reported, and the line that it prints, if it prints one
pub record Tells (d : Drive) (r : Reported) (told : Drive × Option Printed) : Type 0 where
  pub drive : told.0 ≡ tallied d r
  pub printed : option_to_list told.1 ≡ r.printed

-- so many words of a play; only their count is looked at
abbrev pub silent : ℕ → List ℤ
silent count = replicate count (pos 0)

-- a line that the language has: n is up to 4096
abbrev pub Limited : Line → Type 0
Limited (Jump a) = Unit
Limited (Glide a c) = Unit
Limited (Seek p) = Unit
Limited (Play n) = n ≤ output_limit
Limited Other = Unit

-- the bytes of a piece
abbrev pub piece_limit : ℕ
piece_limit = 4096

-- before the first byte
unfoldable pub fresh_report : Voice → Report
fresh_report v = record { left = input_limit; scan = Fresh; drive = fresh_drive v }

-- a report after some bytes, and what they printed
pub record Step : Type 0 where
  pub report : Report
  pub text : List ℕ

abbrev pub step_of : Report → List ℕ → Step
step_of r text = record { report = r; text = text }

abbrev pub behind : List ℕ → Step → Step
behind text s = record { report = s.report; text = text ++ s.text }

-- room for one more line. Each function that writes one says this of the text that it is lent, and no type does: a text has it before some calls only
abbrev pub HasRoom : ArrayString → Type 0
HasRoom text = array_string_len text + 96 ≤ TEXT_BYTES

-- what some bytes leave: the report after a step, and its text, of at most so many bytes, written behind what stood there
pub record Prints (s : Step) (most : ℕ) (before : List ℕ) (report : Report) (after : List ℕ) : Type 0 where
  pub step : step_of report after ≡ behind before s
  pub short : length after ≤ length before + most

module _ (b store : List ℤ) where
  -- what a line prints after a drive
  unfoldable pub drive_line : Drive → Line → Reported
  drive_line d line = line_report b store d.voice d.plays line

  -- the line that ends here
  unfoldable pub end_line : Report → Step
  end_line r =
      let l = drive_line r.drive (scanned_line r.scan) in
      record { report = record { left = r.left; scan = Fresh; drive = tallied r.drive l }; text = lines_text l.printed }

  -- one byte
  unfoldable pub read_byte : Report → ℕ → Step
  read_byte r x =
      cond (eqb x line_end) (end_line r)
      (record { report = record { left = r.left; scan = next_scan r.scan x; drive = r.drive }; text = [] })

  unfoldable pub read_bytes : Report → List ℕ → Step
  read_bytes r [] = record { report = r; text = [] }
  read_bytes r (x ∷ xs) = let s = read_byte r x in behind s.text (read_bytes s.report xs)

  -- a piece of the input, of at most so many bytes, up to the limit
  unfoldable pub read_piece : Report → List ℕ → Step
  read_piece r piece =
      let n = min (min (length piece) piece_limit) r.left in
      read_bytes (record { left = r.left - n; scan = r.scan; drive = r.drive }) (take n piece)

  -- the end of the input: the last line may lack its line end
  unfoldable pub last_line : Report → Step
  last_line r = cond (is_begun r.scan) (end_line r) (record { report = r; text = [] })

  unfoldable pub end_text : Report → List ℕ
  end_text r = let s = last_line r in s.text ++ total_text s.report.drive.outputs s.report.drive.multiplies
