-- A voice as 95 signed 32-bit words. An unsigned field is the 32 bits of its word; a field of 64 bits is two words, the low one first.
use Rattle.std.specs.Prelude.{cond, List, [], ◌∷◌, ◌++◌, ℕ, ◌+◌, ◌*◌, ◌/◌, ◌%◌, ◌^◌, ltb, ℤ, pos, ◌-ℤ◌}
use Rattle.arith.specs.Lists.{at, part}
use Rattle.arith.specs.Words.{unsigned}
use Rattle.control.specs.declared.Control.{Control}
use Rattle.player.specs.declared.Voice.{Voice}

-- the word that has the 32 bits of n
unfoldable pub signed : ℕ → ℤ
signed n = cond (ltb n (2 ^ 31)) (pos n) (pos n -ℤ pos (2 ^ 32))

-- the number of 64 bits in two words
unfoldable pub wide : ℤ → ℤ → ℕ
wide low high = unsigned low + unsigned high * 2 ^ 32

unfoldable pub low_word : ℕ → ℤ
low_word n = signed (n % 2 ^ 32)

unfoldable pub high_word : ℕ → ℤ
high_word n = signed (n / 2 ^ 32)

abbrev pub voice_length : ℕ
voice_length = 95

-- words 0..13: T, the fade's old and new level and i, R, R0, R1, c, j, P
unfoldable pub control_of : List ℤ → Control
control_of w = record {
  top = unsigned (at w 0);
  fade = record { from = unsigned (at w 1); to = unsigned (at w 2); step = unsigned (at w 3) };
  rate = wide (at w 4) (at w 5);
  glide = record { start = wide (at w 6) (at w 7); target = wide (at w 8) (at w 9); count = unsigned (at w 10); done = unsigned (at w 11) };
  position = wide (at w 12) (at w 13);
}

-- and 81 points
unfoldable pub voice_of : List ℤ → Voice
voice_of w = record { control = control_of w; history = part w 14 81 }

unfoldable pub control_words : Control → List ℤ
control_words c =
    signed c.top
    ∷ signed c.fade.from
    ∷ signed c.fade.to
    ∷ signed c.fade.step
    ∷ low_word c.rate
    ∷ high_word c.rate
    ∷ low_word c.glide.start
    ∷ high_word c.glide.start
    ∷ low_word c.glide.target
    ∷ high_word c.glide.target
    ∷ signed c.glide.count
    ∷ signed c.glide.done
    ∷ low_word c.position
    ∷ high_word c.position
    ∷ []

unfoldable pub words_of : Voice → List ℤ
words_of v = control_words v.control ++ v.history
