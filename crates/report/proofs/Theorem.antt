-- However an input is cut into pieces, what is printed is its report; no input overflows a count. Assumes nothing.
use mathlib.Core.Path.{◌≡◌, refl, sym, ap, ap₂, ◌∙◌}
use mathlib.Core.Bool.{Bool, true, false, cond}
use mathlib.Core.List.{List, [], ◌∷◌, ◌++◌, append_assoc, append-nil}
use Prim.Native.Nat.{ℕ, suc, ◌+◌, ◌-◌, ◌^◌, ◌≤◌, ◌<◌, min}
use native.Mathlib.Nat.{min-eq_left, min-eq_right, min-le_left}
use native.Mathlib.Omega.{arith}
use lib.Dec.{eqb, ltb}
use lib.IntN.{ℤ}
use lib.ListN.{length, take, length-take}
use lib.Seq.{take_all, take-nil, take-append-le, take-append-add}
use borrow.Author.Tests.{ltb-true, ltb-false}
use Rattle.player.specs.declared.Voice.{Voice}
use Rattle.test_setting.specs.Setting.{test_setting}
use Rattle.text.specs.Decimal.{last_decimal_digits, decimal}
use Rattle.drive_text.specs.declared.Scan.TheVariants.{Fresh}
use Rattle.drive_text.specs.Lines.{Parts, line_end, split, lines_from, lines_of, input_limit, input_lines}
use Rattle.drive_text.specs.Inner.{next_scan}
use Rattle.report.specs.declared.Report.{Report}
use Rattle.report.specs.declared.Printed.{Printed}
use Rattle.report.specs.Printed.{total_word, lines_text, total_text, outputs_of, multiplies_of, sum}
use Rattle.report.specs.Report.{lines_report, report, drive_report}
use Rattle.report.specs.Inner.{Step, piece_limit, fresh_drive, fresh_report, end_line, read_byte, read_bytes, read_piece, end_text}
use Rattle.report.specs.Whole.{joined, Short, read_pieces, all_text, PiecesReport}
use Rattle.report.proofs.Bytes.{read_parts}
use Rattle.report.proofs.ByLines.{onwards, from, by_lines, lines_printed_lem, lines_fit}

-- ---- a limit over two parts

take_parts : (left : ℕ) (xs ys : List ℕ) (n : ℕ) → n ≡ min (length xs) left → take n xs ++ take (left - n) ys ≡ take left (xs ++ ys)
take_parts left xs ys n e = go (ltb (length xs) left) refl
  where
    go : (t : Bool) → ltb (length xs) left ≡ t → take n xs ++ take (left - n) ys ≡ take left (xs ++ ys)
    go true p =
        let l : length xs ≤ left = omega (arith, ltb-true (length xs) left p) in
        let n-is : n ≡ length xs = e ∙ min-eq_left l in
        let m : left ≡ length xs + (left - n) = omega arith in
        ap (λ z. z ++ take (left - n) ys) (take_all n xs (omega arith)) ∙ sym (take-append-add xs ys (left - n)) ∙ ap (λ k. take k (xs ++ ys)) (sym m)
    go false p =
        let l : left ≤ length xs = ltb-false (length xs) left p in
        let n-is : n ≡ left = e ∙ min-eq_right l in
        let none : left - n ≡ 0 = omega arith in
        ap₂ (λ k j. take k xs ++ take j ys) n-is none ∙ append-nil (take left xs) ∙ sym (take-append-le left xs ys l)

-- ---- pieces

module _ (b store : List ℤ) where
  left_kept : (r : Report) (xs : List ℕ) → (read_bytes b store r xs).report.left ≡ r.left
  unfolding read_bytes read_byte end_line
  left_kept r [] = refl
  left_kept r (x ∷ xs) = left_kept (read_byte b store r x).report xs ∙ byte_left (eqb x line_end)
    where
      byte_left : (t : Bool) → (cond {A = Step} t (end_line b store r) (record { report = record { left = r.left; scan = next_scan r.scan x; drive = r.drive }; text = [] })).report.left ≡ r.left
      byte_left true = refl
      byte_left false = refl

  -- what is left to read plays no part in what is printed of given bytes
  onwards_left : (r : Report) (left : ℕ) (xs : List ℕ) → onwards b store (record { left = left; scan = r.scan; drive = r.drive }) xs ≡ onwards b store r xs
  onwards_left r left xs = by_lines b store (record { left = left; scan = r.scan; drive = r.drive }) xs ∙ sym (by_lines b store r xs)

  -- bytes in two parts
  onwards_parts : (r : Report) (xs ys : List ℕ) → onwards b store r (xs ++ ys) ≡ (let s = read_bytes b store r xs in s.text ++ onwards b store s.report ys)
  onwards_parts r xs ys =
      let s : Step = read_bytes b store r xs in
      let t : Step = read_bytes b store s.report ys in
      ap (λ q. q.text ++ end_text b store q.report) (read_parts b store r xs ys) ∙ append_assoc s.text t.text (end_text b store t.report)

  pieces_onwards : (r : Report) (pieces : List (List ℕ)) → Short pieces → all_text b store r pieces ≡ onwards b store r (take r.left (joined pieces))
  unfolding all_text read_pieces read_piece joined read_bytes
  pieces_onwards r [] short = ap (onwards b store r) (sym (take-nil r.left))
  pieces_onwards r (piece ∷ pieces) short =
      let n : ℕ = min (min (length piece) piece_limit) r.left in
      let n-is : n ≡ min (length piece) r.left = ap (λ k. min k r.left) (min-eq_left short.0) in
      let q : Report = record { left = r.left - n; scan = r.scan; drive = r.drive } in
      let s : Step = read_bytes b store q (take n piece) in
      let later : Step = read_pieces b store s.report pieces in
      append_assoc s.text later.text (end_text b store later.report)
      ∙ ap (λ t. s.text ++ t) (pieces_onwards s.report pieces short.1 ∙ ap (λ k. onwards b store s.report (take k (joined pieces))) (left_kept q (take n piece)))
      ∙ sym (onwards_parts q (take n piece) (take (r.left - n) (joined pieces)))
      ∙ onwards_left r (r.left - n) (take n piece ++ take (r.left - n) (joined pieces))
      ∙ ap (onwards b store r) (take_parts r.left piece (joined pieces) n n-is)

-- ---- the whole input

split_count : (xs : List ℕ) → length (split line_end xs).others ≤ length xs
unfolding split
split_count [] = omega arith
split_count (x ∷ xs) = go (eqb x line_end) (split_count xs)
  where
    go : (t : Bool) → length (split line_end xs).others ≤ length xs
        → length (cond {A = Parts} t (record { first = []; others = (split line_end xs).first ∷ (split line_end xs).others }) (record { first = x ∷ (split line_end xs).first; others = (split line_end xs).others })).others ≤ suc (length xs)
    go true h = omega arith
    go false h = omega arith

lines_count : (first : List ℕ) (others : List (List ℕ)) → length (lines_from first others) ≤ suc (length others)
unfolding lines_from
lines_count [] [] = omega arith
lines_count (x ∷ xs) [] = omega arith
lines_count first (next ∷ others) = omega (arith, lines_count next others)

take_few : (n : ℕ) (xs : List ℕ) → length (take n xs) ≤ n
take_few n xs = omega (arith, length-take n xs, min-le_left n (length xs))

bytes_count : (bytes : List ℕ) → length bytes ≤ 1048576 → length (lines_of bytes) ≤ 1048577
unfolding lines_of
bytes_count bytes few = let p = split line_end bytes in omega (arith, lines_count p.first p.others, split_count bytes, few)

-- bytes with room for their lines
bytes_report : (b store : List ℤ) (v : Voice) (r : Report) (bytes : List ℕ) → r.scan ≡ Fresh → r.drive ≡ fresh_drive v → length bytes ≤ 1048576
    → onwards b store r bytes ≡ (let ps = (lines_report b store v 0 (lines_of bytes)).printed in lines_text ps ++ total_text (sum outputs_of ps) (sum multiplies_of ps))
unfolding fresh_drive lines_of
bytes_report b store v r bytes fresh start few =
    let p = split line_end bytes in
    let ps : List Printed = (lines_report b store v 0 (lines_of bytes)).printed in
    let o : 0 + sum outputs_of ps ≡ sum outputs_of ps = omega arith in
    let m : 0 + sum multiplies_of ps ≡ sum multiplies_of ps = omega arith in
    by_lines b store r bytes
    ∙ ap₂ (λ s d. from b store s d p.first p.others) fresh start
    ∙ lines_printed_lem b store (fresh_drive v) 1048577 p.first p.others (bytes_count bytes few) (omega arith, omega arith, omega arith)
    ∙ ap₂ (λ i j. lines_text ps ++ total_text i j) o m

pub pieces_report : PiecesReport
unfolding fresh_report report
pieces_report b store v pieces short =
    pieces_onwards b store (fresh_report v) pieces short
    ∙ bytes_report b store v (fresh_report v) (take input_limit (joined pieces)) refl refl (take_few input_limit (joined pieces))

-- no total of any input reaches 2^64
pub totals_fit : (b store : List ℤ) (v : Voice) (input : List ℕ) → let ps = (lines_report b store v 0 (input_lines input)).printed in (sum outputs_of ps < 2 ^ 64) × (sum multiplies_of ps < 2 ^ 64)
totals_fit b store v input = few (input_lines input) (bytes_count (take input_limit input) (take_few input_limit input))
  where
    few : (lines : List (List ℕ)) → length lines ≤ 1048577 → let ps = (lines_report b store v 0 lines).printed in (sum outputs_of ps < 2 ^ 64) × (sum multiplies_of ps < 2 ^ 64)
    few lines h = let f = lines_fit b store v 0 lines in (omega (arith, f.0), omega (arith, f.1))

-- on the hum, book and opening of (b)
pub drive_report_lem : (pieces : List (List ℕ)) → Short pieces
    → (let s = test_setting in all_text s.book s.store (fresh_report s.voice) pieces) ≡ drive_report (joined pieces)
drive_report_lem pieces short = let s = test_setting in pieces_report s.book s.store s.voice pieces short

-- an empty input: "total 0 0"
pub empty_report : (b store : List ℤ) (v : Voice) → report b store v [] ≡ total_word ++ (32 ∷ 48 ∷ 32 ∷ 48 ∷ 10 ∷ [])
unfolding report lines_of lines_from split lines_report lines_text total_text sum decimal last_decimal_digits
empty_report b store v = refl
