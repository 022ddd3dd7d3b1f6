-- Definitions that only inner functions' contracts cite: no rule of document 02, but a step of the code that computes one. A line is read a byte
-- at a time, and what it said so far is a `Scan`.
use Rattle.std.specs.Prelude.{Bool, true, false, cond, Option, Some, None, List, [], ◌∷◌, ℕ, ◌+◌, ◌-◌, ◌*◌, ◌^◌, min, eqb, leb, slice_get}
use Rattle.drive_text.specs.declared.Line.{Line}
use Rattle.drive_text.specs.declared.Line.TheVariants.{Jump as ToJump, Glide as ToGlide, Seek as ToSeek, Play as ToPlay, Other}
use Rattle.drive_text.specs.declared.Word.{Word}
use Rattle.drive_text.specs.declared.Word.TheVariants.{Jump, Glide, Seek, Play}
use Rattle.drive_text.specs.declared.Scan.{Scan}
use Rattle.drive_text.specs.declared.Scan.TheVariants.{Fresh, InWord, AfterWord, First, AfterFirst, Second, OtherForm}
use Rattle.drive_text.specs.Lines.{blank}
use Rattle.drive_text.specs.Numbers.{is_digit}
use Rattle.drive_text.specs.Calls.{jump_word, glide_word, seek_word, play_word, output_limit}

-- a number is kept up to this, which lies past every limit of a call: it never comes round to a small one again
abbrev pub number_cap : ℕ
number_cap = 2 ^ 60 + 1

unfoldable pub next_number : ℕ → ℕ → ℕ
next_number n x = min (10 * n + (x - 48)) number_cap

-- the letters of a word
unfoldable pub letters_of : Word → List ℕ
letters_of Jump = jump_word
letters_of Glide = glide_word
letters_of Seek = seek_word
letters_of Play = play_word

-- the word that begins with a letter
unfoldable pub word_from : ℕ → Option Word
word_from x =
    cond (eqb x 106) (Some Jump)
    (cond (eqb x 103) (Some Glide)
    (cond (eqb x 115) (Some Seek)
    (cond (eqb x 112) (Some Play) None)))

-- a first byte
abbrev pub begun : Option Word → Scan
begun None = OtherForm
begun (Some w) = InWord w 1

-- a byte behind so many letters of a word, of which the next may be left
abbrev pub spelled : Word → ℕ → Option ℕ → ℕ → Scan
spelled w read None x = cond (eqb x blank) (AfterWord w) OtherForm
spelled w read (Some y) x = cond (eqb x y) (InWord w (read + 1)) OtherForm

-- after one more byte
unfoldable pub next_scan : Scan → ℕ → Scan
next_scan Fresh x = begun (word_from x)
next_scan (InWord w read) x = spelled w read (slice_get (letters_of w) read) x
next_scan (AfterWord w) x = cond (is_digit x) (First w (next_number 0 x)) OtherForm
next_scan (First w a) x = cond (is_digit x) (First w (next_number a x)) (cond (eqb x blank) (AfterFirst w a) OtherForm)
next_scan (AfterFirst w a) x = cond (is_digit x) (Second w a (next_number 0 x)) OtherForm
next_scan (Second w a c) x = cond (is_digit x) (Second w a (next_number c x)) OtherForm
next_scan OtherForm x = OtherForm

-- whether a line's first byte was read
unfoldable pub is_begun : Scan → Bool
is_begun Fresh = false
is_begun (InWord w read) = true
is_begun (AfterWord w) = true
is_begun (First w a) = true
is_begun (AfterFirst w a) = true
is_begun (Second w a c) = true
is_begun OtherForm = true

-- what a word and a number say, and a word and two
unfoldable pub one_said : Word → ℕ → Line
one_said Jump a = ToJump a
one_said Glide a = Other
one_said Seek a = ToSeek a
one_said Play a = cond (leb a output_limit) (ToPlay a) Other

unfoldable pub two_said : Word → ℕ → ℕ → Line
two_said Jump a c = Other
two_said Glide a c = ToGlide a c
two_said Seek a c = Other
two_said Play a c = Other

-- what the line says if it ends here
unfoldable pub scanned_line : Scan → Line
scanned_line Fresh = Other
scanned_line (InWord w read) = Other
scanned_line (AfterWord w) = Other
scanned_line (First w a) = one_said w a
scanned_line (AfterFirst w a) = Other
scanned_line (Second w a c) = two_said w a c
scanned_line OtherForm = Other

-- after all bytes of a list
unfoldable pub scan_from : Scan → List ℕ → Scan
scan_from s [] = s
scan_from s (x ∷ xs) = scan_from (next_scan s x) xs

-- a line with its numbers kept
unfoldable pub kept : Line → Line
kept (ToJump a) = ToJump (min a number_cap)
kept (ToGlide a c) = ToGlide (min a number_cap) (min c number_cap)
kept (ToSeek p) = ToSeek (min p number_cap)
kept (ToPlay n) = ToPlay n
kept Other = Other
