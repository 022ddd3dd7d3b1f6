-- A book's impulses in rows of 16-bit words: no rule of document 01, but a step of the code that computes one.
use Rattle.std.specs.Prelude.{Bool, true, cond, List, ◌≡◌, ℕ, ◌+◌, ◌*◌, ◌≤◌, ◌<◌, leb, ltb, ℤ, pos, negsuc, length, ◌≤ℤ◌}
use Rattle.arith.specs.Limit.{limit}
use Rattle.arith.specs.Lists.{at}
use Rattle.book.specs.Book.{sizes_of, impulse}

-- the width of a row of N taps
unfoldable pub row_width : ℕ → ℕ
row_width N = cond (leb N 8) 8 (cond (leb N 16) 16 32)

-- the words of a book behind its sizes, limited to 16 bits
abbrev pub narrowed : List ℤ → ℕ → ℤ
narrowed b i = limit (negsuc 32767) (pos 32767) (at b (5 + i))

-- word k of row q of words that lie one behind another, N in each row, and 0 behind the last
unfoldable pub source_word : (ℕ → ℤ) → ℕ → ℕ → ℕ → ℤ
source_word source N q k = cond (ltb k N) (source (q * N + k)) (pos 0)

-- the same of a book that is accepted: an impulse
unfoldable pub row_word : List ℤ → ℕ → ℕ → ℤ
row_word b q k = cond (ltb k (sizes_of b).taps) (impulse b q k) (pos 0)

-- n words of a row are written from place a on, and the rest of the table is as it was
pub record PutAt (row : List ℤ) (a n : ℕ) (table₀ table : List ℤ) : Type 0 where
  pub word : (k : ℕ) → k < n → at table (a + k) ≡ at row k
  pub before : (j : ℕ) → j < a → at table j ≡ at table₀ j
  pub behind : (j : ℕ) → a + n ≤ j → at table j ≡ at table₀ j

-- a book has M phases of N words, and a table of zeros has room for M rows of W
pub record PhasesFit (b : List ℤ) (N W M : ℕ) (table : List ℤ) : Type 0 where
  pub few : N ≤ 24
  pub phases_few : M ≤ 128
  pub wide : N ≤ W
  pub book_room : 5 + M * N ≤ length b
  pub table_room : M * W ≤ length table
  pub zeros : (j : ℕ) → at table j ≡ pos 0

-- M rows of N words, and 0 behind them
pub record PhasesOf (source : ℕ → ℤ) (N W M : ℕ) (table : List ℤ) : Type 0 where
  pub word : (q k : ℕ) → q < M → k < W → at table (q * W + k) ≡ source_word source N q k
  pub rest : (j : ℕ) → M * W ≤ j → at table j ≡ pos 0

-- of W coefficients from place r on one is positive: then a sum of products with samples does not reach 2^31
pub record Positive (table : List ℤ) (r W : ℕ) : Type 0 where
  pub place : ℕ
  pub inside : place < W
  pub above : pos 1 ≤ℤ at table (r + place)

-- the rows of a book, one behind another, for q = 0 .. M; if `positive` is true, each of them is known to have a positive coefficient
pub record RowsOf (b table : List ℤ) (positive : Bool) : Type 0 where
  pub room : ((sizes_of b).phases + 1) * row_width (sizes_of b).taps ≤ length table
  pub word : (q k : ℕ) → q ≤ (sizes_of b).phases → k < row_width (sizes_of b).taps → at table (q * row_width (sizes_of b).taps + k) ≡ row_word b q k
  pub each : positive ≡ true → (q : ℕ) → q ≤ (sizes_of b).phases → ∥ Positive table (q * row_width (sizes_of b).taps) (row_width (sizes_of b).taps) ∥₁
