-- The language of a drive's text (document 02, (f)): bytes to lines.
use Rattle.std.specs.Prelude.{cond, List, [], ◌∷◌, ℕ, eqb, take}

-- in ASCII
abbrev pub line_end : ℕ
line_end = 10

abbrev pub blank : ℕ
blank = 32

-- a list cut at each byte that is a mark: what stands before the first mark, and what stands behind each
pub record Parts : Type 0 where
  pub first : List ℕ
  pub others : List (List ℕ)

unfoldable pub split : ℕ → List ℕ → Parts
split mark [] = record { first = []; others = [] }
split mark (x ∷ xs) =
    let p = split mark xs in
    cond (eqb x mark) (record { first = []; others = p.first ∷ p.others }) (record { first = x ∷ p.first; others = p.others })

-- the lines that parts at line ends are: what stands behind the last line end is a line only if it is not empty
unfoldable pub lines_from : List ℕ → List (List ℕ) → List (List ℕ)
lines_from [] [] = []
lines_from (x ∷ xs) [] = (x ∷ xs) ∷ []
lines_from line (next ∷ others) = line ∷ lines_from next others

-- the lines of some bytes; the last may lack its line end
unfoldable pub lines_of : List ℕ → List (List ℕ)
lines_of bytes = let p = split line_end bytes in lines_from p.first p.others

-- input past its first 1048576 bytes is not read
abbrev pub input_limit : ℕ
input_limit = 1048576

abbrev pub input_lines : List ℕ → List (List ℕ)
input_lines input = lines_of (take input_limit input)
