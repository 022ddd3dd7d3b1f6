-- Definitions that only inner functions' contracts cite: no rule of document 01, but a step of the code that computes one.
use Rattle.std.specs.Prelude.{List, ◌≡◌, ℕ, ◌+◌, ◌-◌, ◌*◌, ◌^◌, ◌≤◌, pred, ℤ, pos, negsuc, nat_abs, ◌+ℤ◌, ◌*ℤ◌, length}
use Rattle.arith.specs.Floor.{near}
use Rattle.arith.specs.Limit.{limit}
use Rattle.arith.specs.Lists.{at, word_at, tabulate, overwrite}
use Rattle.arith.specs.Sum.{sum_around}
use Rattle.book.specs.Check.{tap_sum}
use Rattle.book.specs.Inner.{HalfBand}

-- a step by which a sum may pass through the taps from tap 1 on: 1, or 2 where they are half-band
pub record TapStep (taps : List ℤ) (step : ℕ) : Type 0 where
  pub low : 1 ≤ step
  pub high : step ≤ 2
  pub even : step ≡ 2 → HalfBand taps

-- taps and points whose sums fit
pub record Summable (taps : List ℤ) (step : ℕ) (line : List ℤ) : Type 0 where
  pub some : 1 ≤ length taps
  pub few : length taps ≤ 41
  pub small : tap_sum taps ≤ 32768
  pub stepped : TapStep taps step
  pub bounded : (k : ℕ) → nat_abs (at line k) ≤ 2 ^ 29

-- the sum of taps times points around place `centre`, the taps on both sides
unfoldable pub centred_sum : List ℤ → List ℤ → ℕ → ℤ
centred_sum taps line centre = sum_around (pred (length taps)) (λ k. at taps (nat_abs k) *ℤ word_at line (pos centre +ℤ k))

-- a sum / 2^22, rounded, limited to −32768..32767
unfoldable pub sample_of : ℤ → ℤ
sample_of x = limit (negsuc 32767) (pos 32767) (near x (2 ^ 22))

-- output i of a run: the newest point that it reads stands at 126 − 2i
unfoldable pub line_output : List ℤ → List ℤ → ℕ → ℤ
line_output taps line i = sample_of (centred_sum taps line (126 - 2 * i + (length taps - 1)))

-- words with n outputs in place of the first n
abbrev pub first_outputs : List ℤ → ℕ → (ℕ → ℤ) → List ℤ
first_outputs words n f = overwrite words 0 (tabulate n f)
