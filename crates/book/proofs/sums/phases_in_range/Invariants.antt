-- `book::sums::phases_in_range` meets its contract. Outer invariant: the phases passed are in range. Inner: the sum is that of the
-- phase's first k impulses. Assumes nothing.
use Rattle.std.proofs.Common.{◌≡◌, ℕ, ◌+◌, ◌*◌, ◌≤◌, Bool, true, leb, List, ℤ, nat_abs}
use Rattle.arith.specs.Lists.{at}
use Rattle.arith.specs.Sum.{total}
use Rattle.arith.specs.Tests.{every}
use Rattle.book.specs.Check.{phase_sum}
use Rattle.book.proofs.sums.phases_in_range.Given as goal

-- the size of tap k of phase q, and the test of a phase
abbrev pub size : List ℤ → ℕ → ℕ → ℕ → ℕ
size impulses taps q k = nat_abs (at impulses (q * taps + k))

abbrev pub phase_right : List ℤ → ℕ → Bool
phase_right b q = leb (phase_sum b q) 65536

abbrev pub invariant-loop-k : goal.invariant-loop-k
invariant-loop-k l = (l.sum ≡ total l.k (size l.impulses l.taps l.q)) × (l.sum ≤ l.k * 32768)

abbrev pub invariant-phases : goal.invariant-phases
invariant-phases l = (l.right ≡ true) × (every l.q (phase_right l.book.words.now) ≡ true)
