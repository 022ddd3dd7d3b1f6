-- The places of a run's values: no rule of document 01, but a step of the code that computes one.
use Rattle.std.specs.Prelude.{List, ◌≡◌, ℕ, ◌-◌, ◌*◌, ◌/◌, ◌%◌, ◌^◌, ◌<◌, get_or}

-- of n values, `distance` 2^-32 words behind the beginning of a window that ends `spread` words on, the last first, where M rows are W words wide
pub record PlacesOf (M W spread n : ℕ) (distance : ℕ → ℕ) (rows firsts offsets : List ℕ) : Type 0 where
  pub row : (k : ℕ) → k < n → get_or rows k 0 ≡ distance k % 2 ^ 32 * M / 2 ^ 32 * W
  pub first : (k : ℕ) → k < n → get_or firsts k 0 ≡ spread - distance k / 2 ^ 32
  pub offset : (k : ℕ) → k < n → get_or offsets k 0 ≡ distance k % 2 ^ 32 * M % 2 ^ 32
