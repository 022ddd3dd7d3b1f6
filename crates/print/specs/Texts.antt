-- Texts of numbers, in ASCII, by the text of one.
use Rattle.std.specs.Prelude.{ℕ, List, [], ◌∷◌, ◌++◌, flat_map}

-- a blank, and then the number
abbrev pub next_of : {N : Type 0} → (N → List ℕ) → N → List ℕ
next_of text x = 32 ∷ text x

-- a blank before each number, and the end of the line
abbrev pub line_of : {N : Type 0} → (N → List ℕ) → List N → List ℕ
line_of text xs = flat_map (next_of text) xs ++ 10 ∷ []

-- each number on a line of its own
abbrev pub lines_of : {N : Type 0} → (N → List ℕ) → List N → List ℕ
lines_of text xs = flat_map (λ x. text x ++ 10 ∷ []) xs
