-- Finite sums.
use Rattle.std.specs.Prelude.{ℕ, zero, suc, ◌+◌, ℤ, pos, negsuc, ◌+ℤ◌}

-- f 0 + .. + f (n − 1), of integers
unfoldable pub sum : ℕ → (ℕ → ℤ) → ℤ
sum zero f = pos 0
sum (suc n) f = sum n f +ℤ f n

-- the same, of natural numbers
unfoldable pub total : ℕ → (ℕ → ℕ) → ℕ
total zero f = 0
total (suc n) f = total n f + f n

-- the sum of f k over k = −a .. a
unfoldable pub sum_around : ℕ → (ℤ → ℤ) → ℤ
sum_around zero f = f (pos 0)
sum_around (suc a) f = sum_around a f +ℤ (f (negsuc a) +ℤ f (pos (suc a)))
