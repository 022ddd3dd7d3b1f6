-- `pair_sums::write_rows` meets its contract. The loop's invariant: the pairs below k are written, and what lies before them is as it was. Assumes nothing.
use Rattle.std.proofs.Common.{◌≡◌, ℕ, ◌+◌, ◌*◌, ◌<◌}
use Rattle.arith.specs.Lists.{at}
use Rattle.pair_sums.proofs.write_rows.Given as goal

abbrev pub invariant-loop-k : goal.invariant-loop-k
invariant-loop-k g l =
    ((i j : ℕ) → i < l.k → j < 16
    → goal.F-post g l.tap (2 * i) (at l.rows (32 * (l.first + i) + 2 * j)) × goal.F-post g l.tap (2 * i + 1) (at l.rows (32 * (l.first + i) + 2 * j + 1)))
    × ((i : ℕ) → i < 32 * l.first → at l.rows i ≡ at l.initial.rows i)
