-- `pair_sums::all_sums` meets its contract. The loop's invariant: the lines below p are written. Assumes nothing.
use Rattle.std.proofs.Common.{◌≡◌, ℕ, ◌+◌, ◌*◌, ◌<◌, length}
use Rattle.arith.specs.Lists.{at}
use Rattle.pair_sums.specs.Forms.{line_at}
use Rattle.pair_sums.proofs.all_sums.Given as goal

abbrev pub invariant-loop-p : goal.invariant-loop-p
invariant-loop-p l = (length l.out ≡ 64) × ((q j : ℕ) → q < l.p → j < 16 → at l.out (16 * q + j) ≡ line_at l.rows l.places l.words q j)
