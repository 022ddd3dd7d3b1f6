-- What is printed from a report on, by the lines of the bytes that are left. Assumes nothing.
use mathlib.Core.Path.{◌≡◌, refl, sym, ap, ap₂, subst, ◌∙◌}
use mathlib.Core.Bool.{Bool, true, false, cond}
use mathlib.Core.List.{List, [], ◌∷◌, ◌++◌, append_assoc}
use Prim.Native.Nat.{ℕ, zero, suc, ◌+◌, ◌*◌, ◌≤◌}
use native.Mathlib.Omega.{arith}
use lib.Dec.{eqb}
use lib.IntN.{ℤ}
use lib.ListN.{length}
use Rattle.player.specs.declared.Voice.{Voice}
use Rattle.drive_text.specs.declared.Line.{Line}
use Rattle.drive_text.specs.declared.Line.TheVariants.{Jump, Glide, Seek, Play, Other}
use Rattle.drive_text.specs.declared.Scan.{Scan}
use Rattle.drive_text.specs.declared.Scan.TheVariants.{Fresh}
use Rattle.drive_text.specs.Lines.{line_end, split, lines_from}
use Rattle.drive_text.specs.Calls.{line_of}
use Rattle.drive_text.specs.Inner.{next_scan, is_begun, scanned_line, scan_from, kept}
use Rattle.drive_text.proofs.Scans.{scanned_line_lem, begun_next}
use Rattle.report.specs.declared.Drive.{Drive}
use Rattle.report.specs.declared.Report.{Report}
use Rattle.report.specs.declared.Printed.{Printed}
use Rattle.report.specs.Printed.{line_text, lines_text, total_text, plays_of, outputs_of, multiplies_of, sum}
use Rattle.report.specs.Report.{line_report, lines_report}
use Rattle.report.specs.Inner.{largest32, largest64, Step, Limited, tallied, drive_line, end_line, read_byte, read_bytes, last_line, end_text}
use Rattle.report.proofs.HandedOut.{sum-+}
use Rattle.report.proofs.Limited.{scan_limited}
use Rattle.report.proofs.Tallies.{most_of_line, Adds, line_adds, line_kept, drive_of, counted_sums}

-- ---- texts and sums of printed lines

text-++ : (ps qs : List Printed) → lines_text (ps ++ qs) ≡ lines_text ps ++ lines_text qs
unfolding lines_text
text-++ [] qs = refl
text-++ (p ∷ ps) qs = ap (λ t. line_text p ++ t) (text-++ ps qs) ∙ sym (append_assoc (line_text p) (lines_text ps) (lines_text qs))

-- printed lines and a total that grows from o and m by their sums
abbrev with_total : ℕ → ℕ → List Printed → List ℕ
with_total o m ps = lines_text ps ++ total_text (o + sum outputs_of ps) (m + sum multiplies_of ps)

total-behind : (o m : ℕ) (ps qs : List Printed) → lines_text ps ++ with_total (o + sum outputs_of ps) (m + sum multiplies_of ps) qs ≡ with_total o m (ps ++ qs)
total-behind o m ps qs =
    let x : o + sum outputs_of ps + sum outputs_of qs ≡ o + sum outputs_of (ps ++ qs) = omega (arith, sum-+ outputs_of ps qs) in
    let y : m + sum multiplies_of ps + sum multiplies_of qs ≡ m + sum multiplies_of (ps ++ qs) = omega (arith, sum-+ multiplies_of ps qs) in
    ap₂ (λ i j. lines_text ps ++ (lines_text qs ++ total_text i j)) x y
    ∙ sym (append_assoc (lines_text ps) (lines_text qs) (total_text (o + sum outputs_of (ps ++ qs)) (m + sum multiplies_of (ps ++ qs))))
    ∙ ap (λ t. t ++ total_text (o + sum outputs_of (ps ++ qs)) (m + sum multiplies_of (ps ++ qs))) (sym (text-++ ps qs))

total_alone : (o m : ℕ) → total_text o m ≡ with_total o m []
unfolding lines_text sum
total_alone o m = let x : o ≡ o + 0 = omega arith in let y : m ≡ m + 0 = omega arith in ap₂ total_text x y

kept_limited : (line : Line) → Limited (kept line) → Limited line
unfolding kept
kept_limited (Jump a) h = tt
kept_limited (Glide a c) h = tt
kept_limited (Seek p) h = tt
kept_limited (Play n) h = h
kept_limited Other h = tt

-- a line's play is of at most 4096 outputs
line_limited : (line : List ℕ) → Limited (line_of line)
line_limited line = kept_limited (line_of line) (subst Limited (scanned_line_lem line) (scan_limited (scan_from Fresh line)))

-- a line with a byte is begun
begun_all : (s : Scan) (x : ℕ) (xs : List ℕ) → is_begun (scan_from s (x ∷ xs)) ≡ true
unfolding scan_from
begun_all s x [] = begun_next s x
begun_all s x (y ∷ xs) = begun_all (next_scan s x) y xs

module _ (b store : List ℤ) where
  -- what is printed from a report on where these bytes are all that is left
  abbrev pub onwards : Report → List ℕ → List ℕ
  onwards r xs = let s = read_bytes b store r xs in s.text ++ end_text b store s.report

  -- the same of a line that is begun and a drive: at the end of the input, and by the parts of the bytes
  abbrev pub at_end : Scan → Drive → List ℕ
  at_end s d =
      let l = drive_line b store d (scanned_line s) in
      let t = tallied d l in
      cond (is_begun s) (lines_text l.printed ++ total_text t.outputs t.multiplies) (total_text d.outputs d.multiplies)

  abbrev pub from : Scan → Drive → List ℕ → List (List ℕ) → List ℕ
  from s d first [] = at_end (scan_from s first) d
  from s d first (next ∷ others) =
      let l = drive_line b store d (scanned_line (scan_from s first)) in
      lines_text l.printed ++ from Fresh (tallied d l) next others

  end_is : (r : Report) → end_text b store r ≡ at_end r.scan r.drive
  unfolding end_text last_line end_line
  end_is r = go (is_begun r.scan) refl
    where
      go : (t : Bool) → is_begun r.scan ≡ t → end_text b store r ≡ at_end r.scan r.drive
      go true e = rw e refl
      go false e = rw e refl

  begun_from : (s : Scan) (d : Drive) (x : ℕ) (first : List ℕ) (others : List (List ℕ)) → from (next_scan s x) d first others ≡ from s d (x ∷ first) others
  unfolding scan_from
  begun_from s d x first [] = refl
  begun_from s d x first (next ∷ others) = refl

  abbrev ByLines : Report → List ℕ → Type 0
  ByLines r xs = onwards r xs ≡ from r.scan r.drive (split line_end xs).first (split line_end xs).others

  one_more : (r : Report) (x : ℕ) (xs : List ℕ) → ((q : Report) → ByLines q xs) → ByLines r (x ∷ xs)
  unfolding read_bytes read_byte end_line split scan_from
  one_more r x xs later = go (eqb x line_end) refl
    where
      go : (t : Bool) → eqb x line_end ≡ t → ByLines r (x ∷ xs)
      go true e =
          let s : Step = end_line b store r in
          let t : Step = read_bytes b store s.report xs in
          rw e (append_assoc s.text t.text (end_text b store t.report) ∙ ap (λ l. s.text ++ l) (later s.report))
      go false e =
          let q : Report = record { left = r.left; scan = next_scan r.scan x; drive = r.drive } in
          rw e (later q ∙ begun_from r.scan r.drive x (split line_end xs).first (split line_end xs).others)

  pub by_lines : (r : Report) (xs : List ℕ) → ByLines r xs
  unfolding read_bytes split scan_from
  by_lines r [] = end_is r
  by_lines r (x ∷ xs) = one_more r x xs (λ q. by_lines q xs)

  -- ---- the counts have room for so many lines

  abbrev pub Room : Drive → ℕ → Type 0
  Room d n = (d.plays + n ≤ largest32) × (d.outputs + n * 4096 ≤ largest64) × (d.multiplies + n * most_of_line ≤ largest64)

  -- a whole line: what it prints is its report's, and its counts are plain sums
  whole_line : (d : Drive) (n : ℕ) (line : List ℕ) → Room d (suc n)
      → let l = line_report b store d.voice d.plays (line_of line) in
      (drive_line b store d (scanned_line (scan_from Fresh line)) ≡ l)
      × (tallied d l ≡ drive_of l.voice (d.plays + sum plays_of l.printed) (d.outputs + sum outputs_of l.printed) (d.multiplies + sum multiplies_of l.printed))
      × Adds l.printed
  unfolding drive_line tallied
  whole_line d n line room =
      let l = line_report b store d.voice d.plays (line_of line) in
      let a : Adds l.printed = line_adds b store d.voice d.plays (line_of line) (line_limited line) in
      let t = counted_sums d l.printed (omega (arith, room.0, a.plays)) (omega (arith, room.1, a.outputs)) (omega (arith, room.2, a.multiplies)) in (
        ap (line_report b store d.voice d.plays) (scanned_line_lem line) ∙ line_kept b store d.voice d.plays (line_of line),
        ap (λ e. drive_of l.voice e.plays e.outputs e.multiplies) t,
        a,
      )

  -- ---- the report of lines

  abbrev lines_printed : Drive → List (List ℕ) → List Printed
  lines_printed d lines = (lines_report b store d.voice d.plays lines).printed

  -- a line, and what is printed from the drive that it leaves
  line_then : (d : Drive) (n : ℕ) (line : List ℕ) (lines : List (List ℕ)) (later : Drive → List ℕ) → Room d (suc n)
      → ((e : Drive) → Room e n → later e ≡ with_total e.outputs e.multiplies (lines_printed e lines))
      → (let l = drive_line b store d (scanned_line (scan_from Fresh line)) in lines_text l.printed ++ later (tallied d l)) ≡ with_total d.outputs d.multiplies (lines_printed d (line ∷ lines))
  unfolding lines_report
  line_then d n line lines later room then =
      let w = whole_line d n line room in
      let l = line_report b store d.voice d.plays (line_of line) in
      let e : Drive = drive_of l.voice (d.plays + sum plays_of l.printed) (d.outputs + sum outputs_of l.printed) (d.multiplies + sum multiplies_of l.printed) in
      let a = w.2 in
      let left : Room e n = (omega (arith, room.0, a.plays), omega (arith, room.1, a.outputs), omega (arith, room.2, a.multiplies)) in
      ap (λ q. lines_text q.printed ++ later (tallied d q)) w.0
      ∙ ap (λ t. lines_text l.printed ++ later t) w.1
      ∙ ap (λ t. lines_text l.printed ++ t) (then e left)
      ∙ total-behind d.outputs d.multiplies l.printed (lines_printed e lines)

  pub lines_printed_lem : (d : Drive) (n : ℕ) (first : List ℕ) (others : List (List ℕ)) → length (lines_from first others) ≤ n → Room d n
      → from Fresh d first others ≡ with_total d.outputs d.multiplies (lines_printed d (lines_from first others))
  unfolding lines_from lines_report scan_from is_begun
  lines_printed_lem d n [] [] h room = total_alone d.outputs d.multiplies
  lines_printed_lem d zero (x ∷ xs) [] h room = absurd (omega (arith, h))
  lines_printed_lem d (suc n) (x ∷ xs) [] h room =
      rw (begun_all Fresh x xs) (line_then d n (x ∷ xs) [] (λ e. total_text e.outputs e.multiplies) room (λ e left. total_alone e.outputs e.multiplies))
  lines_printed_lem d zero first (next ∷ others) h room = absurd (omega (arith, h))
  lines_printed_lem d (suc n) first (next ∷ others) h room =
      line_then d n first (lines_from next others) (λ e. from Fresh e next others) room (λ e left. lines_printed_lem e n next others (omega (arith, h)) left)

  -- what so many lines add at most
  pub lines_fit : (v : Voice) (plays : ℕ) (lines : List (List ℕ)) → let ps = (lines_report b store v plays lines).printed in (sum outputs_of ps ≤ length lines * 4096) × (sum multiplies_of ps ≤ length lines * most_of_line)
  unfolding lines_report sum
  lines_fit v plays [] = (omega arith, omega arith)
  lines_fit v plays (line ∷ lines) =
      let r = line_report b store v plays (line_of line) in
      let s = lines_report b store r.voice (plays + sum plays_of r.printed) lines in
      let a = line_adds b store v plays (line_of line) (line_limited line) in
      let rest = lines_fit r.voice (plays + sum plays_of r.printed) lines in
      (omega (arith, sum-+ outputs_of r.printed s.printed, a.outputs, rest.0), omega (arith, sum-+ multiplies_of r.printed s.printed, a.multiplies, rest.1))
