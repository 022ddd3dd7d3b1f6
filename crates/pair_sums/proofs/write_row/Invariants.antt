-- `pair_sums::write_row` meets its contract. The loop's invariant: the pair stands j times, and what lies before it is as it was. Assumes nothing.
use Rattle.std.proofs.Common.{◌≡◌, ℕ, ◌+◌, ◌*◌, ◌<◌, length}
use Rattle.arith.specs.Lists.{at}
use Rattle.pair_sums.proofs.write_row.Given as goal

abbrev pub invariant-loop-j : goal.invariant-loop-j
invariant-loop-j l =
    (length l.rows ≡ 1312)
    × ((i : ℕ) → i < l.j → (at l.rows (32 * l.k + 2 * i) ≡ l.first) × (at l.rows (32 * l.k + 2 * i + 1) ≡ l.second))
    × ((i : ℕ) → i < 32 * l.k → at l.rows i ≡ at l.initial.rows i)
