-- What request (h) is applied to in Instance: the book, both recordings, the card, the words behind the levels and the calls.
use mathlib.Core.List.{List, [], ◌∷◌}
use lib.Ieee.{binary32, of_bits}
use lib.IntN.{ℤ, pos, negsuc}
use lib.ListN.{replicate}
use Rattle.control.specs.declared.Card.{Card}
use Rattle.control.specs.declared.Order.TheVariants.{Jump}
use Rattle.drive.specs.Lists.{Call, order, seek, play}

-- N 4, M 1, A and B 0, F 1: phase 0 adds up to 65536, and each tap list to 32768
abbrev pub book : List ℤ
book = pos 4 ∷ pos 1 ∷ pos 0 ∷ pos 0 ∷ pos 1 ∷ pos 0 ∷ negsuc 32767 ∷ negsuc 32767 ∷ pos 0 ∷ negsuc 32767 ∷ pos 0 ∷ pos 32768 ∷ pos 0 ∷ negsuc 32767 ∷ negsuc 32767 ∷ []

abbrev pub old : List ℤ
old = pos 10 ∷ pos 20 ∷ pos 30 ∷ pos 40 ∷ pos 50 ∷ pos 60 ∷ []

abbrev pub new : List ℤ
new = pos 110 ∷ pos 20 ∷ pos 130 ∷ pos 40 ∷ pos 150 ∷ pos 60 ∷ []

abbrev pub card : Card
card = record { rate = of_bits binary32 0x4000_0000; top = 1 }

-- other words after the levels of each store
abbrev pub rest : List ℤ
rest = pos 9 ∷ negsuc 8 ∷ []

abbrev pub rest' : List ℤ
rest' = pos 1 ∷ []

-- two outputs, a jump to rate 4, which T 1 refuses, one more, a seek to the start and one output
abbrev pub calls : List Call
calls = play (replicate 2 (pos 0)) ∷ order (Jump (of_bits binary32 0x4080_0000)) ∷ play (pos 7 ∷ []) ∷ seek 0 ∷ play (pos 0 ∷ []) ∷ []
