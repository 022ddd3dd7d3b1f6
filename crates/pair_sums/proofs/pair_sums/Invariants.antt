-- `pair_sums::pair_sums` meets its contract. The loop's invariant: sums and products of the last pair together are the sums over the pairs
-- below k. Assumes nothing.
use Rattle.std.proofs.Common.{◌≡◌, ℕ, ◌<◌, ◌+ℤ◌}
use Rattle.arith.specs.Lists.{at}
use Rattle.pair_sums.specs.Pairs.{pair_sum, place_of}
use Rattle.pair_sums.proofs.pair_sums.Given as goal

abbrev pub invariant-loop-k : goal.invariant-loop-k
invariant-loop-k l = (l.place ≡ place_of l.a l.b l.k) × ((j : ℕ) → j < 16 → at l.sums j +ℤ at l.last j ≡ pair_sum l.rows l.words l.a l.b l.k j)
