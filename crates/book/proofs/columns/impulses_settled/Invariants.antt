-- `book::columns::impulses_settled` meets its contract. The loop's invariant: no bound is negative, and the columns passed bound their words of
-- all rows. Assumes nothing.
use Rattle.std.proofs.Common.{ℕ, ◌+◌, ◌*◌, ◌<◌, pos, ◌≤ℤ◌}
use Rattle.arith.specs.Lists.{at}
use Rattle.book.specs.Columns.{Passed}
use Rattle.book.proofs.columns.impulses_settled.Given as goal

abbrev pub invariant-loop-eight : goal.invariant-loop-eight
invariant-loop-eight l = record {
  not_negative : (k : ℕ) → pos 0 ≤ℤ at l.bounds k;
  passed : (q k : ℕ) → q < l.rows → k < 8 * l.eight → Passed (at l.bounds k) (at l.differences (q * (4 * l.taps) + k)) (at l.impulses (q * (4 * l.taps) + l.taps + k)) (at l.impulses (q * (4 * l.taps) + k));
}
