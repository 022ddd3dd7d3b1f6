-- The setting of document 02, (b): what its program plays on.
use Rattle.std.specs.Prelude.{false, List, ℕ, Float, ℤ}
use Rattle.std.specs.Float.{binary32}
use Rattle.std.specs.Float.Ieee.{round}
use Rattle.book.specs.Book.{level_taps}
use Rattle.book.specs.BookK.{book_with}
use Rattle.levels.specs.Build.{built_store}
use Rattle.control.specs.declared.Card.{Card}
use Rattle.player.specs.Calls.{open_answer}
use Rattle.test_hum.specs.Hum.{state_after, hum_samples}
use Rattle.test_setting.specs.declared.Setting.{Setting}

-- the f32 that is nearest to a / b
abbrev pub fraction : ℕ → ℕ → Float
fraction a b = round binary32 false a b

-- book K and F 16
abbrev pub test_book : List ℤ
test_book = book_with 16 16384 16384

-- 6400 samples, from state 0
unfoldable pub test_recording : List ℤ
test_recording = hum_samples 0 6400

-- rate 1 and T 2
abbrev pub test_card : Card
test_card = record { rate = fraction 1 1; top = 2 }

-- the store for T 2
unfoldable pub test_store : List ℤ
test_store = built_store (level_taps test_book) test_recording 2

-- book, store, the opened voice, and the state of the stream after the samples
unfoldable pub test_setting : Setting
test_setting = record { book = test_book; store = test_store; voice = (open_answer test_card).voice; state = state_after 0 6400 }
