-- The parts of a book as words of it. Assumes nothing.
use Rattle.std.proofs.Common.{◌≡◌, ℕ, suc, ◌+◌, ◌*◌, ◌<◌, ◌≤◌, List, ℤ, pos, nat_abs, ap, arith, le-ltb, lt-ltb}
use Rattle.arith.specs.Lists.{at}
use Rattle.arith.specs.Sum.{total}
use Rattle.arith.proofs.Sum.{total_ext}
use Rattle.book.specs.Book.{sizes_of, impulse_word, impulse}
use Rattle.book.specs.Check.{phase_sum}

-- G_q[k] stands in the book for q below M
pub impulse_stored : (b : List ℤ) (q k : ℕ) → q < (sizes_of b).phases → impulse b q k ≡ impulse_word b q k
unfolding impulse
impulse_stored b q k h = simp (lt-ltb q (sizes_of b).phases h)

-- G_M[k] is G_0[k+1] ..
pub impulse_past : (b : List ℤ) (k : ℕ) → suc k < (sizes_of b).taps → impulse b (sizes_of b).phases k ≡ impulse_word b 0 (suc k)
unfolding impulse
impulse_past b k h = simp (le-ltb (sizes_of b).phases (sizes_of b).phases (omega arith), lt-ltb (suc k) (sizes_of b).taps h)

-- .. and 0 at the last tap
pub impulse_end : (b : List ℤ) (k : ℕ) → (sizes_of b).taps ≤ suc k → impulse b (sizes_of b).phases k ≡ pos 0
unfolding impulse
impulse_end b k h = simp (le-ltb (sizes_of b).phases (sizes_of b).phases (omega arith), le-ltb (suc k) (sizes_of b).taps h)

-- a phase's sum, over the words of its impulses
pub phase_sum_stored : (b : List ℤ) (q : ℕ) → q < (sizes_of b).phases → phase_sum b q ≡ total (sizes_of b).taps (λ k. nat_abs (at b (5 + (q * (sizes_of b).taps + k))))
unfolding phase_sum impulse_word
phase_sum_stored b q h = total_ext (sizes_of b).taps (λ k l. ap nat_abs (impulse_stored b q k h))
