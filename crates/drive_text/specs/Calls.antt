-- What a line says (document 02, (f)): "jump a", "glide a c", "seek p" and "play n", one blank before each number.
use Rattle.std.specs.Prelude.{Bool, true, false, ◌&&◌, cond, List, [], ◌∷◌, ℕ, eqb, leb}
use Rattle.drive_text.specs.declared.Line.{Line}
use Rattle.drive_text.specs.declared.Line.TheVariants.{Jump, Glide, Seek, Play, Other}
use Rattle.drive_text.specs.Lines.{blank, split}
use Rattle.drive_text.specs.Numbers.{is_number, number_of}

-- "jump"
abbrev pub jump_word : List ℕ
jump_word = 106 ∷ 117 ∷ 109 ∷ 112 ∷ []

-- "glide"
abbrev pub glide_word : List ℕ
glide_word = 103 ∷ 108 ∷ 105 ∷ 100 ∷ 101 ∷ []

-- "seek"
abbrev pub seek_word : List ℕ
seek_word = 115 ∷ 101 ∷ 101 ∷ 107 ∷ []

-- "play"
abbrev pub play_word : List ℕ
play_word = 112 ∷ 108 ∷ 97 ∷ 121 ∷ []

unfoldable pub same : List ℕ → List ℕ → Bool
same [] [] = true
same [] (y ∷ ys) = false
same (x ∷ xs) [] = false
same (x ∷ xs) (y ∷ ys) = eqb x y && same xs ys

-- n up to 4096
abbrev pub output_limit : ℕ
output_limit = 4096

-- a word and a number
unfoldable pub with_one : List ℕ → ℕ → Line
with_one word n =
    cond (same word jump_word) (Jump n)
    (cond (same word seek_word) (Seek n)
    (cond (same word play_word && leb n output_limit) (Play n) Other))

-- a word and two numbers
unfoldable pub with_two : List ℕ → ℕ → ℕ → Line
with_two word a c = cond (same word glide_word) (Glide a c) Other

-- a word and the parts behind it; what is no line of these is one of another form
unfoldable pub from_parts : List ℕ → List (List ℕ) → Line
from_parts word [] = Other
from_parts word (a ∷ []) = cond (is_number a) (with_one word (number_of a)) Other
from_parts word (a ∷ c ∷ []) = cond (is_number a && is_number c) (with_two word (number_of a) (number_of c)) Other
from_parts word (a ∷ c ∷ d ∷ more) = Other

-- what a line says
unfoldable pub line_of : List ℕ → Line
line_of bytes = let p = split blank bytes in from_parts p.first p.others
