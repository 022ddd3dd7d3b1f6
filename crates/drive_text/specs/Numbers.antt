-- Whole numbers of one or more decimal digits (document 02, (f)), of any length and with leading zeros.
use Rattle.std.specs.Prelude.{Bool, true, false, ◌&&◌, List, [], ◌∷◌, ℕ, ◌+◌, ◌-◌, ◌*◌, leb}

-- `0` to `9`, in ASCII
unfoldable pub is_digit : ℕ → Bool
is_digit x = leb 48 x && leb x 57

unfoldable pub all_digits : List ℕ → Bool
all_digits [] = true
all_digits (x ∷ xs) = is_digit x && all_digits xs

unfoldable pub is_number : List ℕ → Bool
is_number [] = false
is_number (x ∷ xs) = is_digit x && all_digits xs

-- the number that more digits make of n
unfoldable pub with_digits : ℕ → List ℕ → ℕ
with_digits n [] = n
with_digits n (x ∷ xs) = with_digits (10 * n + (x - 48)) xs

-- the number that digits write
abbrev pub number_of : List ℕ → ℕ
number_of = with_digits 0
