-- Numbers as text, in ASCII.
use Rattle.std.specs.Prelude.{cond, List, [], ◌∷◌, ◌++◌, ℕ, zero, suc, ◌+◌, ◌/◌, ◌%◌, ltb}

-- at most so many last digits of n, without zeros in front
unfoldable pub last_decimal_digits : ℕ → ℕ → List ℕ
last_decimal_digits zero n = []
last_decimal_digits (suc count) n = cond (ltb n 10) [] (last_decimal_digits count (n / 10)) ++ (48 + n % 10) ∷ []

-- n in decimal: a number has no more digits than n + 1
unfoldable pub decimal : ℕ → List ℕ
decimal n = last_decimal_digits (suc n) n
