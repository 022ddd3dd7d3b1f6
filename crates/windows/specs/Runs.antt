-- The values of a run, from the words of its window: no rule of document 01, but a step of the code that computes one.
use Rattle.std.specs.Prelude.{Bool, true, List, ◌≡◌, ℕ, ◌+◌, ◌-◌, ◌/◌, ◌^◌, ◌≤◌, ◌<◌, ℤ, pos, nat_abs, length, get_or}
use Rattle.arith.specs.Lists.{at}
use Rattle.arith.specs.Sum.{total}
use Rattle.values.specs.Values.{unit}
use Rattle.rows.specs.Rows.{Positive}
use Rattle.dot_products.specs.Sums.{dot_sum, mixed_value}

-- positions that a window of a level has room for: none before the first or behind the last, which lie 127 words apart at most
pub record Together (positions : List ℕ) (l : ℕ) : Type 0 where
  pub level_high : l ≤ 4
  pub some : 1 ≤ length positions
  pub few : length positions ≤ 128
  pub between : (k : ℕ) → k < length positions → (get_or positions 0 0 ≤ get_or positions k 0) × (get_or positions k 0 ≤ get_or positions (length positions - 1) 0)
  pub early : get_or positions (length positions - 1) 0 ≤ 2 ^ 60
  pub apart : get_or positions (length positions - 1) 0 / unit l ≤ get_or positions 0 0 / unit l + 127

-- a row of W coefficients from place r on, of which those behind the first n are 0; if `positive` is true, one of them is known to be positive
pub record RowFits (table : List ℤ) (positive : Bool) (r n W : ℕ) : Type 0 where
  pub room : r + W ≤ length table
  pub size : total W (λ k. nat_abs (at table (r + k))) ≤ 65536
  pub rest : (k : ℕ) → n ≤ k → k < W → at table (r + k) ≡ pos 0
  pub one : positive ≡ true → ∥ Positive table r W ∥₁

-- places whose words begin in a window, and whose W coefficients in two rows of a table, one behind the other: those of words behind the window are 0
pub record RunOf (window table : List ℤ) (positive : Bool) (W : ℕ) (rows firsts offsets : List ℕ) : Type 0 where
  pub window_high : length window ≤ 160
  pub wide : W ≤ 32
  pub words_small : (k : ℕ) → k < length window → nat_abs (at window k) ≤ 2 ^ 27
  pub inside : (k : ℕ) → k < length rows → get_or firsts k 0 ≤ length window
  pub here : (k : ℕ) → k < length rows → RowFits table positive (get_or rows k 0) (length window - get_or firsts k 0) W
  pub next : (k : ℕ) → k < length rows → RowFits table positive (get_or rows k 0 + W) (length window - get_or firsts k 0) W
  pub offset_low : (k : ℕ) → k < length rows → get_or offsets k 0 < 2 ^ 32

-- the value at place k
unfoldable pub run_value : List ℤ → List ℤ → ℕ → List ℕ → List ℕ → List ℕ → ℕ → ℤ
run_value window table W rows firsts offsets k =
    let a = get_or firsts k 0 in
    let r = get_or rows k 0 in
    mixed_value (dot_sum window a table r W) (dot_sum window a table (r + W) W) (get_or offsets k 0)
