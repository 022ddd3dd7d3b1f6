-- Definitions that only inner functions' contracts cite: no rule of document 01, but a step of the code that computes one.
use Rattle.std.specs.Prelude.{List, ◌≡◌, ℕ, ◌+◌, ◌*◌, ◌/◌, ◌<◌, pred, ℤ, pos, negsuc, nat_abs, ◌-ℤ◌, length}
use Rattle.arith.specs.Limit.{limit}
use Rattle.arith.specs.Lists.{at}
use Rattle.octave.specs.Octave.{level_word}

-- tap c in the order of time, limited to 16 bits; 0 behind the last
abbrev pub time_tap : List ℤ → ℕ → ℤ
time_tap h c = limit (negsuc 32767) (pos 32767) (at h (nat_abs (pos c -ℤ pos (pred (length h)))))

-- pair k of them stands sixteen times from place 32 k on
abbrev pub Rows : List ℤ → List ℤ → Type 0
Rows h rows = (k j : ℕ) → k < length h → j < 16 → (at rows (32 * k + 2 * j) ≡ time_tap h (2 * k)) × (at rows (32 * k + 2 * j + 1) ≡ time_tap h (2 * k + 1))

-- ---- half-band taps

-- tap c of those at an odd distance, in the order of time, limited to 16 bits
abbrev pub odd_tap : List ℤ → ℕ → ℤ
odd_tap h c = limit (negsuc 32767) (pos 32767) (at h (nat_abs (pos (2 * c + 1) -ℤ pos (2 * (length h / 2)))))

-- the centre's pair, and the pairs of those, sixteen times each
abbrev pub BandRows : List ℤ → List ℤ → Type 0
BandRows h rows =
    ((j : ℕ) → j < 16 → (at rows (2 * j) ≡ limit (negsuc 32767) (pos 32767) (at h 0)) × (at rows (2 * j + 1) ≡ pos 0))
    × ((k j : ℕ) → k < length h / 2 → j < 16 → (at rows (32 * (k + 1) + 2 * j) ≡ odd_tap h (2 * k)) × (at rows (32 * (k + 1) + 2 * j + 1) ≡ odd_tap h (2 * k + 1)))

-- ---- words of the level above

-- its words from word n on
abbrev pub WordsFrom : List ℤ → List ℤ → ℕ → List ℤ → Type 0
WordsFrom h level n words = (i : ℕ) → i < length words → at words i ≡ level_word h level (n + i)
