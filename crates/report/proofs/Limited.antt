-- What a scan says is a line of the language: a play is of at most 4096 outputs. Assumes nothing.
use mathlib.Core.Path.{◌≡◌, refl}
use mathlib.Core.Bool.{Bool, true, false, cond}
use Prim.Native.Nat.{ℕ}
use lib.Dec.{leb}
use borrow.Author.Tests.{leb-true}
use Rattle.drive_text.specs.declared.Line.TheVariants.{Play as ToPlay, Other}
use Rattle.drive_text.specs.declared.Word.{Word}
use Rattle.drive_text.specs.declared.Word.TheVariants.{Jump, Glide, Seek, Play}
use Rattle.drive_text.specs.declared.Scan.{Scan}
use Rattle.drive_text.specs.declared.Scan.TheVariants.{Fresh, InWord, AfterWord, First, AfterFirst, Second, OtherForm}
use Rattle.drive_text.specs.Calls.{output_limit}
use Rattle.drive_text.specs.Inner.{one_said, two_said, scanned_line}
use Rattle.report.specs.Inner.{Limited}

one_limited : (w : Word) (n : ℕ) → Limited (one_said w n)
unfolding one_said
one_limited Jump n = tt
one_limited Glide n = tt
one_limited Seek n = tt
one_limited Play n = go (leb n output_limit) refl
  where
    go : (t : Bool) → leb n output_limit ≡ t → Limited (cond t (ToPlay n) Other)
    go true e = leb-true n output_limit e
    go false e = tt

two_limited : (w : Word) (a c : ℕ) → Limited (two_said w a c)
unfolding two_said
two_limited Jump a c = tt
two_limited Glide a c = tt
two_limited Seek a c = tt
two_limited Play a c = tt

pub scan_limited : (s : Scan) → Limited (scanned_line s)
unfolding scanned_line
scan_limited Fresh = tt
scan_limited (InWord w read) = tt
scan_limited (AfterWord w) = tt
scan_limited (First w a) = one_limited w a
scan_limited (AfterFirst w a) = tt
scan_limited (Second w a c) = two_limited w a c
scan_limited OtherForm = tt
