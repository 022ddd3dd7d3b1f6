-- The lines that a drive report prints (document 02, (f)), and their text in ASCII.
use Rattle.std.specs.Prelude.{List, [], ◌∷◌, ◌++◌, ℕ, ◌+◌}
use Rattle.drive_text.specs.Lines.{line_end, blank}
use Rattle.text.specs.Decimal.{decimal}
use Rattle.report.specs.declared.Printed.{Printed}
use Rattle.report.specs.declared.Printed.TheVariants.{Refused as refused, Played as played}

-- "refused"
abbrev pub refused_word : List ℕ
refused_word = 114 ∷ 101 ∷ 102 ∷ 117 ∷ 115 ∷ 101 ∷ 100 ∷ []

-- "total"
abbrev pub total_word : List ℕ
total_word = 116 ∷ 111 ∷ 116 ∷ 97 ∷ 108 ∷ []

-- one blank between
abbrev pub next : ℕ → List ℕ
next n = blank ∷ decimal n

unfoldable pub line_text : Printed → List ℕ
line_text refused = refused_word ++ line_end ∷ []
line_text (played number outputs multiplies level) = decimal number ++ next outputs ++ next multiplies ++ next level ++ line_end ∷ []

unfoldable pub lines_text : List Printed → List ℕ
lines_text [] = []
lines_text (p ∷ lines) = line_text p ++ lines_text lines

unfoldable pub total_text : ℕ → ℕ → List ℕ
total_text outputs multiplies = total_word ++ next outputs ++ next multiplies ++ line_end ∷ []

-- ---- sums over printed lines

-- what a printed line has of plays, outputs and multiplies
abbrev pub plays_of : Printed → ℕ
plays_of refused = 0
plays_of (played number outputs multiplies level) = 1

abbrev pub outputs_of : Printed → ℕ
outputs_of refused = 0
outputs_of (played number outputs multiplies level) = outputs

abbrev pub multiplies_of : Printed → ℕ
multiplies_of refused = 0
multiplies_of (played number outputs multiplies level) = multiplies

unfoldable pub sum : (Printed → ℕ) → List Printed → ℕ
sum of [] = 0
sum of (p ∷ lines) = of p + sum of lines
