-- Lists of words: reading at an index, a part, a list made by a rule, and one list written over another.
use Rattle.std.specs.Prelude.{ℕ, zero, suc, ◌+◌, List, [], ◌∷◌, ◌++◌, ℤ, pos, negsuc, length, get_or, take, drop}

-- word k, and 0 past the end
abbrev pub at : List ℤ → ℕ → ℤ
at xs k = get_or xs k (pos 0)

-- word i for any integer i: words outside the list are 0
unfoldable pub word_at : List ℤ → ℤ → ℤ
word_at xs (pos k) = at xs k
word_at xs (negsuc k) = pos 0

-- the n words from place a on
abbrev pub part : {A : Type 0} → List A → ℕ → ℕ → List A
part xs a n = take n (drop a xs)

-- f 0, f 1, .., f (n − 1)
unfoldable pub tabulate : {A : Type 0} → ℕ → (ℕ → A) → List A
tabulate zero f = []
tabulate (suc n) f = f 0 ∷ tabulate n (λ k. f (suc k))

-- xs with ys written over it from place a on
abbrev pub overwrite : {A : Type 0} → List A → ℕ → List A → List A
overwrite xs a ys = take a xs ++ ys ++ drop (a + length ys) xs
