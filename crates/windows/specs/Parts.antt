-- Words in 16-bit parts: no rule of document 01, but a step of the code that computes one. Behind the words that are taken apart a part may have
-- anything of its size.
use Rattle.std.specs.Prelude.{List, ◌≡◌, ℕ, ◌≤◌, ◌<◌, ℤ, pos, negsuc, nat_abs, ◌+ℤ◌, ◌*ℤ◌, ◌≤ℤ◌}
use Rattle.arith.specs.Lists.{at}

-- no word is larger than c
abbrev pub Within : ℕ → List ℤ → Type 0
Within c words = (k : ℕ) → nat_abs (at words k) ≤ c

-- each word has a size of which a sum of products fits 32 bits
abbrev pub Small : List ℤ → Type 0
Small words = Within 32767 words

-- x fits 16 bits
abbrev pub Sample : ℤ → Type 0
Sample x = (negsuc 32767 ≤ℤ x) × (x ≤ℤ pos 32767)

-- each word does
abbrev pub Samples : List ℤ → Type 0
Samples words = (k : ℕ) → Sample (at words k)

-- the first n words as 2^14 × high + low
pub record PartsOf (window : List ℤ) (n : ℕ) (high low : List ℤ) : Type 0 where
  pub word : (k : ℕ) → k < n → at window k ≡ at high k *ℤ pos 16384 +ℤ at low k
  pub high_small : Within 8192 high
  pub low_small : Within 16383 low

-- the first n words as 256 × a sample, twice
pub record SamplesOf (window : List ℤ) (n : ℕ) (first second : List ℤ) : Type 0 where
  pub word : (k : ℕ) → k < n → (at window k ≡ at first k *ℤ pos 256) × (at window k ≡ at second k *ℤ pos 256)
  pub first_narrow : Samples first
  pub second_narrow : Samples second
