-- An octave level from the one below it (document 01, "Octave levels"). h is the list of level taps.
use Rattle.std.specs.Prelude.{List, ℕ, ◌+◌, ◌*◌, ◌/◌, pred, ℤ, pos, nat_abs, ◌+ℤ◌, ◌*ℤ◌, length}
use Rattle.arith.specs.Floor.{near}
use Rattle.arith.specs.Lists.{at, word_at, tabulate}
use Rattle.arith.specs.Sum.{sum_around}

-- half of a length, rounded up
unfoldable pub half_length : ℕ → ℕ
half_length n = (n + 1) / 2

-- the sum over k = −A..A of h[|k|] × word (2n + k), words outside the level being 0
unfoldable pub level_sum : List ℤ → List ℤ → ℕ → ℤ
level_sum h level n = sum_around (pred (length h)) (λ k. at h (nat_abs k) *ℤ word_at level (pos (2 * n) +ℤ k))

-- word n of the level above: near(that sum / 16384)
unfoldable pub level_word : List ℤ → List ℤ → ℕ → ℤ
level_word h level n = near (level_sum h level n) 16384

-- the level above: half as long, rounded up
unfoldable pub next_level : List ℤ → List ℤ → List ℤ
next_level h level = tabulate (half_length (length level)) (level_word h level)
