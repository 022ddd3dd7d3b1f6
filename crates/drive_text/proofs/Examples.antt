-- Lines and what they say: the language of a drive's text by examples, computed from the definitions. Assumes nothing.
use mathlib.Core.Path.{◌≡◌, refl}
use mathlib.Core.List.{List, [], ◌∷◌, map}
use Prim.Native.Nat.{ℕ}
use Rattle.drive_text.specs.declared.Line.{Line}
use Rattle.drive_text.specs.declared.Line.TheVariants.{Jump, Glide, Seek, Play, Other}
use Rattle.drive_text.specs.Lines.{split, lines_from, lines_of}
use Rattle.drive_text.specs.Numbers.{is_digit, all_digits, is_number, with_digits}
use Rattle.drive_text.specs.Calls.{same, with_one, with_two, from_parts, line_of}

pub record Example : Type 0 where
  pub line : List ℕ
  pub said : Line

abbrev pub says : List ℕ → Line → Example
says l s = record { line = l; said = s }

abbrev pub table : List Example
table =
    -- "play 4096"
    says (112 ∷ 108 ∷ 97 ∷ 121 ∷ 32 ∷ 52 ∷ 48 ∷ 57 ∷ 54 ∷ []) (Play 4096)
    ∷  -- "play 4097"
    says (112 ∷ 108 ∷ 97 ∷ 121 ∷ 32 ∷ 52 ∷ 48 ∷ 57 ∷ 55 ∷ []) Other
    ∷  -- "play 0"
    says (112 ∷ 108 ∷ 97 ∷ 121 ∷ 32 ∷ 48 ∷ []) (Play 0)
    ∷  -- "jump 00256"
    says (106 ∷ 117 ∷ 109 ∷ 112 ∷ 32 ∷ 48 ∷ 48 ∷ 50 ∷ 53 ∷ 54 ∷ []) (Jump 256)
    ∷  -- "jump 4294967552"
    says (106 ∷ 117 ∷ 109 ∷ 112 ∷ 32 ∷ 52 ∷ 50 ∷ 57 ∷ 52 ∷ 57 ∷ 54 ∷ 55 ∷ 53 ∷ 53 ∷ 50 ∷ []) (Jump 4294967552)
    ∷  -- "seek 1152921504606846977"
    says (115 ∷ 101 ∷ 101 ∷ 107 ∷ 32 ∷ 49 ∷ 49 ∷ 53 ∷ 50 ∷ 57 ∷ 50 ∷ 49 ∷ 53 ∷ 48 ∷ 52 ∷ 54 ∷ 48 ∷ 54 ∷ 56 ∷ 52 ∷ 54 ∷ 57 ∷ 55 ∷ 55 ∷ []) (Seek 1152921504606846977)
    ∷  -- "glide 512 10"
    says (103 ∷ 108 ∷ 105 ∷ 100 ∷ 101 ∷ 32 ∷ 53 ∷ 49 ∷ 50 ∷ 32 ∷ 49 ∷ 48 ∷ []) (Glide 512 10)
    ∷  -- ""
    says [] Other
    ∷  -- " play 1"
    says (32 ∷ 112 ∷ 108 ∷ 97 ∷ 121 ∷ 32 ∷ 49 ∷ []) Other
    ∷  -- "play  1"
    says (112 ∷ 108 ∷ 97 ∷ 121 ∷ 32 ∷ 32 ∷ 49 ∷ []) Other
    ∷  -- "play 1 "
    says (112 ∷ 108 ∷ 97 ∷ 121 ∷ 32 ∷ 49 ∷ 32 ∷ []) Other
    ∷  -- "play\t1"
    says (112 ∷ 108 ∷ 97 ∷ 121 ∷ 9 ∷ 49 ∷ []) Other
    ∷  -- "play 1\r"
    says (112 ∷ 108 ∷ 97 ∷ 121 ∷ 32 ∷ 49 ∷ 13 ∷ []) Other
    ∷  -- "play +1"
    says (112 ∷ 108 ∷ 97 ∷ 121 ∷ 32 ∷ 43 ∷ 49 ∷ []) Other
    ∷  -- "Play 1"
    says (80 ∷ 108 ∷ 97 ∷ 121 ∷ 32 ∷ 49 ∷ []) Other
    ∷  -- "play"
    says (112 ∷ 108 ∷ 97 ∷ 121 ∷ []) Other
    ∷  -- "jump 1 2"
    says (106 ∷ 117 ∷ 109 ∷ 112 ∷ 32 ∷ 49 ∷ 32 ∷ 50 ∷ []) Other
    ∷  -- "glide 512"
    says (103 ∷ 108 ∷ 105 ∷ 100 ∷ 101 ∷ 32 ∷ 53 ∷ 49 ∷ 50 ∷ []) Other
    ∷ []

pub examples : map (λ e. line_of e.line) table ≡ map (λ e. e.said) table
unfolding line_of split is_digit all_digits is_number with_digits same with_one with_two from_parts
examples = refl

-- bytes to lines: "a", "", "b" where the last line has its end, and where it lacks it; and no line at all
pub lines_of_lem : (lines_of (97 ∷ 10 ∷ 10 ∷ 98 ∷ 10 ∷ []) ≡ (97 ∷ []) ∷ [] ∷ (98 ∷ []) ∷ []) × (lines_of (97 ∷ 10 ∷ 10 ∷ 98 ∷ []) ≡ (97 ∷ []) ∷ [] ∷ (98 ∷ []) ∷ []) × (lines_of [] ≡ [])
unfolding lines_of split lines_from
lines_of_lem = (refl, refl, refl)
