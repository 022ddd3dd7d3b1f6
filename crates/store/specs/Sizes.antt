-- How long the octave levels of S samples are, and where each begins in a store (document 01, "Octave levels"; the header: document 02, (a)).
use Rattle.std.specs.Prelude.{Bool, ℕ, zero, suc, ◌+◌, ℤ, pos}
use Rattle.arith.specs.Sum.{total}
use Rattle.arith.specs.Tests.{within}
use Rattle.octave.specs.Octave.{half_length}

-- S is 1..1048576, T is 0..4
unfoldable pub samples_in_range : ℤ → Bool
samples_in_range S = within (pos 1) (pos 1048576) S

unfoldable pub top_in_range : ℤ → Bool
top_in_range T = within (pos 0) (pos 4) T

-- words of level j
unfoldable pub level_length : ℕ → ℕ → ℕ
level_length S zero = S
level_length S (suc j) = half_length (level_length S j)

-- words of the levels below level j
unfoldable pub levels_below : ℕ → ℕ → ℕ
levels_below S j = total j (λ i. level_length S i)

-- words of the header: S, T and the T+1 level lengths
unfoldable pub header_length : ℕ → ℕ
header_length T = 3 + T

-- the place of level j in a store for S and T: the header and the levels below it come first
unfoldable pub level_start : ℕ → ℕ → ℕ → ℕ
level_start S T j = header_length T + levels_below S j

-- words of a store: the header and levels 0..T
unfoldable pub store_length : ℕ → ℕ → ℕ
store_length S T = level_start S T (suc T)
