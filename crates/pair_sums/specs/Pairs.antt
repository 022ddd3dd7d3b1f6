-- Words in 16-bit parts, and sums of pairs of them: no rule of document 01, but a step of the code that computes one.
use Rattle.std.specs.Prelude.{List, ◌≡◌, ℕ, zero, suc, ◌+◌, ◌*◌, ◌/◌, ◌%◌, ◌≤◌, ◌<◌, ℤ, pos, negsuc, nat_abs, ◌+ℤ◌, ◌-ℤ◌, ◌*ℤ◌, length}
use Rattle.arith.specs.Floor.{floor_div}
use Rattle.arith.specs.Limit.{limit}
use Rattle.arith.specs.Lists.{at}
use Rattle.arith.specs.Sum.{sum}

-- a word in two parts of 16 bits: 65536 × upper + lower
abbrev pub upper_part : ℤ → ℤ
upper_part x = floor_div (x +ℤ pos 32768) 65536

abbrev pub lower_part : ℤ → ℤ
lower_part x = x -ℤ upper_part x *ℤ pos 65536

-- a word that is a sample × 256 in one part
abbrev pub sample_part : ℤ → ℤ
sample_part x = limit (negsuc 32767) (pos 32767) (floor_div x 256)

-- all words are such
abbrev pub Samples : List ℤ → Type 0
Samples level = (k : ℕ) → at level k ≡ pos 256 *ℤ sample_part (at level k)

-- f of each word
abbrev pub Written : List ℤ → (ℤ → ℤ) → List ℤ → Type 0
Written words f out = (i : ℕ) → i < length words → at out i ≡ f (at words i)

-- f of the first words of pairs, and 104 places on of the second
abbrev pub Split : List ℤ → (ℤ → ℤ) → List ℤ → Type 0
Split words f out = (i : ℕ) → i < length words / 2 → (at out i ≡ f (at words (2 * i))) × (at out (104 + i) ≡ f (at words (2 * i + 1)))

-- what pair k, whose words begin at p, adds to sum j, which lies 2j words on
abbrev pub pair_product : List ℤ → List ℤ → ℕ → ℕ → ℕ → ℤ
pair_product rows words p k j = at rows (32 * k + 2 * j) *ℤ at words (p + 2 * j) +ℤ at rows (32 * k + 2 * j + 1) *ℤ at words (p + 2 * j + 1)

-- where the words of pair k begin
unfoldable pub place_of : ℕ → ℕ → ℕ → ℕ
place_of a b zero = a
place_of a b (suc k) = b + 2 * k

-- sum j over the pairs below m
abbrev pub pair_sum : List ℤ → List ℤ → ℕ → ℕ → ℕ → ℕ → ℤ
pair_sum rows words a b m j = sum m (λ k. pair_product rows words (place_of a b k) k j)

-- how far on the words of sixteen sums begin
abbrev pub shift : ℕ → ℕ → ℕ
shift far p = p / 2 * far + p % 2 * 32

-- sum j of line p of four
abbrev pub line_sum : List ℤ → List ℤ → ℕ → ℕ → ℕ → ℕ → ℕ → ℕ → ℤ
line_sum rows words a b far m p j = pair_sum rows words (a + shift far p) (b + shift far p) m j

-- all sums over fewer pairs too, and what each pair adds, are at most c
abbrev pub Small : List ℤ → List ℤ → ℕ → ℕ → ℕ → ℕ → ℕ → Type 0
Small rows words a b far m c =
    ((p k j : ℕ) → p < 4 → k ≤ m → j < 16 → nat_abs (line_sum rows words a b far k p j) ≤ c)
    × ((p k j : ℕ) → p < 4 → k < m → j < 16 → nat_abs (pair_product rows words (place_of (a + shift far p) (b + shift far p) k) k j) ≤ c)
