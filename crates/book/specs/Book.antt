-- The filter book (document 01): where its parts lie and how they are read. A book is a list of signed words: five sizes, M × N
-- impulses, M × N differences, A + 1 level taps, B + 1 decimation taps.
use Rattle.std.specs.Prelude.{ℕ, suc, ◌+◌, ◌*◌, cond, List, ℤ, pos, nat_lt, unsigned_abs}
use Rattle.arith.specs.Lists.{at, part}
use Rattle.book.specs.declared.Sizes.{Sizes}

-- N, M, A, B and F, as numbers
unfoldable pub sizes_of : List ℤ → Sizes
sizes_of b = record { taps = unsigned_abs (at b 0); phases = unsigned_abs (at b 1); reach = unsigned_abs (at b 2); decimation = unsigned_abs (at b 3); fade = unsigned_abs (at b 4) }

-- ---- where the parts begin, and the length that the sizes give

unfoldable pub differences_at : Sizes → ℕ
differences_at s = 5 + s.phases * s.taps

unfoldable pub level_taps_at : Sizes → ℕ
level_taps_at s = differences_at s + s.phases * s.taps

unfoldable pub decimation_taps_at : Sizes → ℕ
decimation_taps_at s = level_taps_at s + (s.reach + 1)

unfoldable pub book_length : Sizes → ℕ
book_length s = decimation_taps_at s + (s.decimation + 1)

-- ---- the parts

-- the word in the array of impulses for phase q, tap k
unfoldable pub impulse_word : List ℤ → ℕ → ℕ → ℤ
impulse_word b q k = at b (5 + (q * (sizes_of b).taps + k))

-- G_q[k] for q = 0 .. M: impulse k of phase q. G_M[k] is G_0[k+1], and G_0[N] is 0.
unfoldable pub impulse : List ℤ → ℕ → ℕ → ℤ
impulse b q k =
    cond (nat_lt q (sizes_of b).phases) (impulse_word b q k)
    (cond (nat_lt (suc k) (sizes_of b).taps) (impulse_word b 0 (suc k)) (pos 0))

-- the word in the array of differences for phase q, tap k
unfoldable pub difference : List ℤ → ℕ → ℕ → ℤ
difference b q k = at b (differences_at (sizes_of b) + (q * (sizes_of b).taps + k))

-- h[0] .. h[A]
unfoldable pub level_taps : List ℤ → List ℤ
level_taps b = part b (level_taps_at (sizes_of b)) ((sizes_of b).reach + 1)

-- g[0] .. g[B] ("halving taps")
unfoldable pub decimation_taps : List ℤ → List ℤ
decimation_taps b = part b (decimation_taps_at (sizes_of b)) ((sizes_of b).decimation + 1)
