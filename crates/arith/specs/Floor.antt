-- Division of an integer by a natural number above 0, rounded down, and rounded to the nearest integer.
use Rattle.std.specs.Prelude.{cond, ℕ, ◌%◌, ◌/◌, ℤ, pos, negsuc, nat_abs, ◌+ℤ◌, ◌-ℤ◌, ◌*ℤ◌}
use Rattle.std.specs.Int.Signed.{lt_z}

-- the floor of a / b, towards minus infinity below zero too (`negsuc n` is −(n + 1))
unfoldable pub floor_div : ℤ → ℕ → ℤ
floor_div (pos n) b = pos (n / b)
floor_div (negsuc n) b = negsuc (n / b)

-- the even one of n and n + 1
unfoldable pub even_of : ℤ → ℤ
even_of n = n +ℤ pos (nat_abs n % 2)

-- n + rest/b rounded, where rest/b is from 0 to 1: n below the half, n + 1 above it, and from an exact half the even neighbour
unfoldable pub nearest : ℤ → ℤ → ℕ → ℤ
nearest n rest b = cond (lt_z (pos 2 *ℤ rest) (pos b)) n (cond (lt_z (pos b) (pos 2 *ℤ rest)) (n +ℤ pos 1) (even_of n))

-- near(a/b): the integer nearest to a/b, from an exact half the even neighbour
unfoldable pub near : ℤ → ℕ → ℤ
near a b = nearest (floor_div a b) (a -ℤ pos b *ℤ floor_div a b) b
