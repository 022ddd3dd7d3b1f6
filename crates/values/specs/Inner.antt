-- Definitions that only inner functions' contracts cite: no rule of document 01, but a step of the code that computes one.
use Rattle.std.specs.Prelude.{List, ℕ, ◌+◌, ◌/◌, ℤ, pos, ◌-ℤ◌, ◌*ℤ◌}
use Rattle.arith.specs.Sum.{sum}
use Rattle.book.specs.Book.{sizes_of, impulse}
use Rattle.values.specs.Values.{unit}

-- the words that a value at P reads, the last first, times the impulses of phase q
unfoldable pub phase_total : List ℤ → (ℤ → ℤ) → ℕ → ℕ → ℕ → ℤ
phase_total b word l P q =
    let N = (sizes_of b).taps in
    sum N (λ k. word (pos (P / unit l + N / 2) -ℤ pos k) *ℤ impulse b q k)
