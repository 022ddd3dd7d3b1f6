-- Definitions that only inner functions' contracts cite: no rule of document 01, but a step of the code that computes one.
use Rattle.std.specs.Prelude.{◌≡◌, ℕ, ◌+◌, ◌*◌, Bool, List, ℤ, pos, ◌-ℤ◌}
use Rattle.arith.specs.Lists.{at, part}
use Rattle.arith.specs.Tests.{eq_z, every}
use Rattle.book.specs.Book.{sizes_of, differences_at, level_taps_at}

-- half-band taps: those at an even distance from the centre are 0
abbrev pub HalfBand : List ℤ → Type 0
HalfBand h = (e : ℕ) → at h (2 * e + 2) ≡ pos 0

-- the arrays
unfoldable pub impulses : List ℤ → List ℤ
impulses b = part b 5 ((sizes_of b).phases * (sizes_of b).taps)

unfoldable pub differences : List ℤ → List ℤ
differences b = part b (differences_at (sizes_of b)) ((sizes_of b).phases * (sizes_of b).taps)

-- all taps: those of levels, then those of decimation
unfoldable pub taps : List ℤ → List ℤ
taps b = part b (level_taps_at (sizes_of b)) ((sizes_of b).reach + 1 + ((sizes_of b).decimation + 1))

-- the first n differences are right, where those of the next phase lie so many taps on
abbrev pub first_right : List ℤ → ℕ → ℕ → Bool
first_right b taps n = every n (λ i. eq_z (at (differences b) i) (at (impulses b) (taps + i) -ℤ at (impulses b) i))
