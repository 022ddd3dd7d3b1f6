-- Sums of products, and the values that they make: no rule of document 01, but steps of the code that computes one.
use Rattle.std.specs.Prelude.{List, ℕ, ◌+◌, ◌*◌, ◌^◌, ◌≤◌, ◌<◌, ℤ, pos, neg_ℤ, nat_abs, ◌+ℤ◌, ◌-ℤ◌, ◌*ℤ◌, length, get_or, ◌≤ℤ◌, ◌<ℤ◌}
use Rattle.arith.specs.Floor.{near}
use Rattle.arith.specs.Lists.{at}
use Rattle.arith.specs.Sum.{sum}

-- n words from place a on, times n coefficients from place r on
unfoldable pub dot_sum : List ℤ → ℕ → List ℤ → ℕ → ℕ → ℤ
dot_sum words a table r n = sum n (λ k. at words (a + k) *ℤ at table (r + k))

-- x fits 32 bits
abbrev pub Fits32 : ℤ → Type 0
Fits32 x = (neg_ℤ (pos (2 ^ 31)) ≤ℤ x) × (x <ℤ pos (2 ^ 31))

-- W words and W coefficients that a sum may take: on the way none is larger than 32 bits hold
pub record Summable (words : List ℤ) (a : ℕ) (table : List ℤ) (r W : ℕ) : Type 0 where
  pub narrow : W ≤ 32
  pub words_room : a + W ≤ length words
  pub table_room : r + W ≤ length table
  pub fits : (n : ℕ) → n ≤ W → Fits32 (dot_sum words a table r n)

-- places at which x is summed over the rows, and y over the rows behind them
pub record Readable (x y table : List ℤ) (W : ℕ) (rows firsts : List ℕ) : Type 0 where
  pub here : (k : ℕ) → k < length rows → Summable x (get_or firsts k 0) table (get_or rows k 0) W
  pub next : (k : ℕ) → k < length rows → Summable y (get_or firsts k 0) table (get_or rows k 0 + W) W

-- those sums at place k
abbrev pub sum_here : List ℤ → List ℤ → ℕ → List ℕ → List ℕ → ℕ → ℤ
sum_here x table W rows firsts k = dot_sum x (get_or firsts k 0) table (get_or rows k 0) W

abbrev pub sum_next : List ℤ → List ℤ → ℕ → List ℕ → List ℕ → ℕ → ℤ
sum_next y table W rows firsts k = dot_sum y (get_or firsts k 0) table (get_or rows k 0 + W) W

-- the value of sums over a phase and over the next one, and of an offset in 2^-32
unfoldable pub mixed_value : ℤ → ℤ → ℕ → ℤ
mixed_value base next e = near (pos (2 ^ 32) *ℤ base +ℤ pos e *ℤ (next -ℤ base)) (16384 * 2 ^ 32)

-- sums of the high and the low parts of words, over a phase and over the next one, and an offset in 2^-32, of which a value may be made
pub record PartSums (high low high' low' : ℤ) (e : ℕ) : Type 0 where
  pub high_size : nat_abs high ≤ 2 ^ 29
  pub low_size : nat_abs low + 65536 ≤ 2 ^ 30
  pub next_high_size : nat_abs high' ≤ 2 ^ 29
  pub next_low_size : nat_abs low' + 65536 ≤ 2 ^ 30
  pub offset_low : e < 2 ^ 32

-- their value
unfoldable pub parts_value : ℤ → ℤ → ℤ → ℤ → ℕ → ℤ
parts_value high low high' low' e = mixed_value (high *ℤ pos 16384 +ℤ low) (high' *ℤ pos 16384 +ℤ low') e
