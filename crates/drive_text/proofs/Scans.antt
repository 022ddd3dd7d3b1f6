-- A line read a byte at a time says what it says as a whole, with its numbers kept up to their cap. Assumes nothing.
use mathlib.Core.Path.{◌≡◌, refl, sym, ap, ◌∙◌}
use mathlib.Core.Bool.{Bool, true, false, ◌&&◌, cond, true≢false}
use mathlib.Core.List.{List, [], ◌∷◌}
use Prim.Native.Nat.{ℕ, ◌+◌, ◌-◌, ◌*◌, min}
use native.Mathlib.Numerals.{add-one}
use native.Mathlib.Omega.{arith}
use lib.Dec.{eqb, leb}
use lib.ListN.{drop}
use borrow.Author.Tests.{eqb-true, leb-true, lt-leb}
use Rattle.std.specs.Prelude.{Option, Some, None, slice_get}
use Rattle.arith.proofs.Tests.{&&-left}
use Rattle.drive_text.specs.declared.Line.{Line}
use Rattle.drive_text.specs.declared.Line.TheVariants.{Play as ToPlay, Other}
use Rattle.drive_text.specs.declared.Word.{Word}
use Rattle.drive_text.specs.declared.Word.TheVariants.{Jump, Glide, Seek, Play}
use Rattle.drive_text.specs.declared.Scan.{Scan}
use Rattle.drive_text.specs.declared.Scan.TheVariants.{Fresh, InWord, AfterWord, First, AfterFirst, Second, OtherForm}
use Rattle.drive_text.specs.Lines.{Parts, blank, split}
use Rattle.drive_text.specs.Numbers.{is_digit, all_digits, is_number, with_digits, number_of}
use Rattle.drive_text.specs.Calls.{same, output_limit, from_parts, line_of}
use Rattle.drive_text.specs.Inner.{number_cap, next_number, letters_of, word_from, begun, spelled, is_begun, next_scan, one_said, two_said, scanned_line, scan_from, kept}
use Rattle.drive_text.proofs.Caps.{by_cap, cap_grown}
use Rattle.drive_text.proofs.Words.{checked, word_of, one_by, two_by, with_one_lem, with_two_lem, blank_begins, first_of, rest_of, letter_at, drop_next, letter_no_blank}

-- ---- what a line says from a scan on, by the parts of the bytes that are left

abbrev digits_from : ℕ → List ℕ → ℕ
digits_from n [] = n
digits_from n (x ∷ xs) = digits_from (next_number n x) xs

abbrev from_second : Word → ℕ → ℕ → List (List ℕ) → Line
from_second w a c [] = two_said w a c
from_second w a c (d ∷ more) = Other

abbrev from_first : Word → ℕ → List (List ℕ) → Line
from_first w a [] = one_said w a
from_first w a (c ∷ more) = cond (is_number c) (from_second w a (digits_from 0 c) more) Other

abbrev from_word : Word → List (List ℕ) → Line
from_word w [] = Other
from_word w (a ∷ more) = cond (is_number a) (from_first w (digits_from 0 a) more) Other

abbrev from_letters : Option Word → List (List ℕ) → Line
from_letters None others = Other
from_letters (Some w) others = from_word w others

abbrev meant : Scan → Parts → Line
meant Fresh p = from_letters (word_of p.first) p.others
meant (InWord w read) p = cond (same p.first (drop read (letters_of w))) (from_word w p.others) Other
meant (AfterWord w) p = from_word w (p.first ∷ p.others)
meant (First w a) p = cond (all_digits p.first) (from_first w (digits_from a p.first) p.others) Other
meant (AfterFirst w a) p = from_first w a (p.first ∷ p.others)
meant (Second w a c) p = cond (all_digits p.first) (from_second w a (digits_from c p.first) p.others) Other
meant OtherForm p = Other

digit_no_blank : (x : ℕ) → is_digit x ≡ true → eqb x blank ≡ false
unfolding is_digit
digit_no_blank x h = go (eqb x blank) refl
  where
    go : (t : Bool) → eqb x blank ≡ t → t ≡ false
    go true p = absurd (omega (arith, eqb-true x blank p, leb-true 48 x (&&-left (leb 48 x) (leb x 57) h)))
    go false p = refl

-- a word's first letter
begun_meant : (o : Option Word) (p : Parts) → meant (begun o) p ≡ from_letters (checked p.first o) p.others
begun_meant None p = refl
begun_meant (Some w) p = go (same p.first (drop 1 (letters_of w)))
  where
    go : (t : Bool) → cond t (from_word w p.others) Other ≡ from_letters (cond t (Some w) None) p.others
    go true = refl
    go false = refl

-- a letter of a word that is begun, or the blank behind it
spelled_meant : (w : Word) (read x : ℕ) (xs : List ℕ) → meant (next_scan (InWord w read) x) (split blank xs) ≡ meant (InWord w read) (split blank (x ∷ xs))
unfolding split next_scan same
spelled_meant w read x xs = rw (letter_at (letters_of w) read) (go (drop read (letters_of w)) (eqb x blank) refl refl)
  where
    p : Parts
    p = split blank xs

    whole : Bool → Parts
    whole t = cond t (record { first = []; others = p.first ∷ p.others }) (record { first = x ∷ p.first; others = p.others })

    go : (left : List ℕ) (ends : Bool) → drop read (letters_of w) ≡ left → eqb x blank ≡ ends
        → meant (spelled w read (first_of left) x) p ≡ cond (same (whole ends).first left) (from_word w (whole ends).others) Other
    go [] true e q = rw q refl
    go [] false e q = rw q refl
    go (y ∷ ys) true e q = next (eqb x y) refl
      where
        next : (t : Bool) → eqb x y ≡ t → meant (cond t (InWord w (read + 1)) OtherForm) p ≡ Other
        next true r = absurd (true≢false (sym q ∙ ap (λ z. eqb z blank) (eqb-true x y r) ∙ letter_no_blank w read y ys e))
        next false r = refl
    go (y ∷ ys) false e q = next (eqb x y)
      where
        ahead : drop (read + 1) (letters_of w) ≡ ys
        ahead = ap (λ k. drop k (letters_of w)) (add-one read) ∙ drop_next (letters_of w) read ∙ ap rest_of e

        next : (t : Bool) → meant (cond t (InWord w (read + 1)) OtherForm) p ≡ cond (t && same p.first ys) (from_word w p.others) Other
        next true = rw ahead refl
        next false = refl

-- one byte more, by whether it is a digit and whether it is the blank
by_byte : (s : Scan) (x : ℕ) (xs : List ℕ) (digit ends : Bool) → is_digit x ≡ digit → eqb x blank ≡ ends → meant (next_scan s x) (split blank xs) ≡ meant s (split blank (x ∷ xs))
unfolding split next_scan all_digits is_number
by_byte Fresh x xs d true p q = rw (blank_begins x q) (simp q)
by_byte Fresh x xs d false p q = rw q (begun_meant (word_from x) (split blank xs))
by_byte (InWord w read) x xs d t p q = spelled_meant w read x xs
by_byte (AfterWord w) x xs true t p q = simp (p, digit_no_blank x p)
by_byte (AfterWord w) x xs false true p q = simp (p, q)
by_byte (AfterWord w) x xs false false p q = simp (p, q)
by_byte (First w a) x xs true t p q = simp (p, digit_no_blank x p)
by_byte (First w a) x xs false true p q = simp (p, q)
by_byte (First w a) x xs false false p q = simp (p, q)
by_byte (AfterFirst w a) x xs true t p q = simp (p, digit_no_blank x p)
by_byte (AfterFirst w a) x xs false true p q = simp (p, q)
by_byte (AfterFirst w a) x xs false false p q = simp (p, q)
by_byte (Second w a c) x xs true t p q = simp (p, digit_no_blank x p)
by_byte (Second w a c) x xs false true p q = simp (p, q)
by_byte (Second w a c) x xs false false p q = simp (p, q)
by_byte OtherForm x xs d t p q = refl

-- all bytes
all_meant : (s : Scan) (xs : List ℕ) → scanned_line (scan_from s xs) ≡ meant s (split blank xs)
unfolding split scan_from all_digits is_number same scanned_line
all_meant Fresh [] = refl
all_meant (InWord w read) [] = word_ends (drop read (letters_of w))
  where
    word_ends : (left : List ℕ) → Other ≡ cond (same [] left) Other Other
    word_ends [] = refl
    word_ends (y ∷ ys) = refl
all_meant (AfterWord w) [] = refl
all_meant (First w a) [] = refl
all_meant (AfterFirst w a) [] = refl
all_meant (Second w a c) [] = refl
all_meant OtherForm [] = refl
all_meant s (x ∷ xs) = all_meant (next_scan s x) xs ∙ by_byte s x xs (is_digit x) (eqb x blank) refl refl

-- ---- kept numbers

digits_capped : (n : ℕ) (xs : List ℕ) → digits_from (min n number_cap) xs ≡ min (with_digits n xs) number_cap
unfolding with_digits next_number
digits_capped n [] = refl
digits_capped n (x ∷ xs) = ap (λ m. digits_from m xs) (cap_grown 10 n (x - 48) number_cap (omega arith)) ∙ digits_capped (10 * n + (x - 48)) xs

number_kept : (xs : List ℕ) → digits_from 0 xs ≡ min (number_of xs) number_cap
number_kept xs = digits_capped 0 xs

-- what a play may ask for is below the cap
play_kept : (n : ℕ) → cond (leb (min n number_cap) output_limit) (ToPlay (min n number_cap)) Other ≡ cond (leb n output_limit) (ToPlay n) Other
play_kept n = by_cap (λ m. cond (leb m output_limit) (ToPlay m) Other) n number_cap (λ l. simp (lt-leb n output_limit (omega arith)))

-- ---- the line

one_kept : (w : Word) (n : ℕ) → one_said w (min n number_cap) ≡ kept (one_said w n)
unfolding one_said kept
one_kept Jump n = refl
one_kept Glide n = refl
one_kept Seek n = refl
one_kept Play n = play_kept n ∙ inside (leb n output_limit)
  where
    inside : (t : Bool) → cond t (ToPlay n) Other ≡ kept (cond t (ToPlay n) Other)
    inside true = refl
    inside false = refl

two_kept : (w : Word) (a c : ℕ) → two_said w (min a number_cap) (min c number_cap) ≡ kept (two_said w a c)
unfolding two_said kept
two_kept Jump a c = refl
two_kept Glide a c = refl
two_kept Seek a c = refl
two_kept Play a c = refl

parts_kept : (word : List ℕ) (others : List (List ℕ)) → from_letters (word_of word) others ≡ kept (from_parts word others)
unfolding from_parts kept
parts_kept word [] = go (word_of word)
  where
    go : (o : Option Word) → from_letters o [] ≡ Other
    go None = refl
    go (Some w) = refl
parts_kept word (a ∷ []) = rw (with_one_lem word (number_of a)) (go (word_of word) (is_number a) refl)
  where
    go : (o : Option Word) (t : Bool) → is_number a ≡ t → from_letters o (a ∷ []) ≡ kept (cond t (one_by o (number_of a)) Other)
    go None true e = refl
    go None false e = refl
    go (Some w) true e = rw (e, number_kept a) (one_kept w (number_of a))
    go (Some w) false e = rw e refl
parts_kept word (a ∷ c ∷ []) = rw (with_two_lem word (number_of a) (number_of c)) (go (word_of word) (is_number a) (is_number c) refl refl)
  where
    go : (o : Option Word) (s t : Bool) → is_number a ≡ s → is_number c ≡ t
        → from_letters o (a ∷ c ∷ []) ≡ kept (cond (s && t) (two_by o (number_of a) (number_of c)) Other)
    go None true true d e = refl
    go None true false d e = refl
    go None false t d e = refl
    go (Some w) true true d e = rw (d, e, number_kept a, number_kept c) (two_kept w (number_of a) (number_of c))
    go (Some w) true false d e = rw (d, e) refl
    go (Some w) false t d e = rw d refl
parts_kept word (a ∷ c ∷ d ∷ more) = go (word_of word) (is_number a) (is_number c) refl refl
  where
    go : (o : Option Word) (s t : Bool) → is_number a ≡ s → is_number c ≡ t → from_letters o (a ∷ c ∷ d ∷ more) ≡ Other
    go None s t e f = refl
    go (Some w) true true e f = rw (e, f) refl
    go (Some w) true false e f = rw (e, f) refl
    go (Some w) false t e f = rw e refl

-- a line read a byte at a time
pub scanned_line_lem : (bytes : List ℕ) → scanned_line (scan_from Fresh bytes) ≡ kept (line_of bytes)
unfolding line_of
scanned_line_lem bytes = all_meant Fresh bytes ∙ parts_kept (split blank bytes).first (split blank bytes).others

-- after a byte the line is begun
pub begun_next : (s : Scan) (x : ℕ) → is_begun (next_scan s x) ≡ true
unfolding is_begun next_scan
begun_next s x = go s (is_digit x) (eqb x blank) refl refl
  where
    first : (o : Option Word) → is_begun (begun o) ≡ true
    first None = refl
    first (Some w) = refl

    either : (t : Bool) (q r : Scan) → is_begun q ≡ true → is_begun r ≡ true → is_begun (cond t q r) ≡ true
    either true q r e f = e
    either false q r e f = f

    letter : (w : Word) (read : ℕ) (o : Option ℕ) → is_begun (spelled w read o x) ≡ true
    letter w read None = either (eqb x blank) (AfterWord w) OtherForm refl refl
    letter w read (Some y) = either (eqb x y) (InWord w (read + 1)) OtherForm refl refl

    go : (s : Scan) (digit ends : Bool) → is_digit x ≡ digit → eqb x blank ≡ ends → is_begun (next_scan s x) ≡ true
    go Fresh d t p q = first (word_from x)
    go (InWord w read) d t p q = letter w read (slice_get (letters_of w) read)
    go (AfterWord w) true t p q = simp p
    go (AfterWord w) false t p q = simp p
    go (First w a) true t p q = simp p
    go (First w a) false true p q = simp (p, q)
    go (First w a) false false p q = simp (p, q)
    go (AfterFirst w a) true t p q = simp p
    go (AfterFirst w a) false t p q = simp p
    go (Second w a c) true t p q = simp p
    go (Second w a c) false t p q = simp p
    go OtherForm d t p q = refl
