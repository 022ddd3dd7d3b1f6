-- `book::columns::test_eight` meets its contract. The loop's invariant: no bound fell, and the eight tell of their words of the rows passed.
-- Assumes nothing.
use Rattle.std.proofs.Common.{ℕ, ◌+◌, ◌*◌, ◌<◌}
use Rattle.arith.specs.Lists.{at}
use Rattle.book.specs.Columns.{Passed, Raised}
use Rattle.book.proofs.columns.test_eight.Given as goal

abbrev pub invariant-loop-q : goal.invariant-loop-q
invariant-loop-q l =
    Raised l.initial.bounds l.bounds
    × ((p k : ℕ) → p < l.q → k < 8 → Passed (at l.bounds k) (at l.differences (p * (4 * l.taps) + l.column + k)) (at l.impulses (p * (4 * l.taps) + l.column + l.taps + k)) (at l.impulses (p * (4 * l.taps) + l.column + k)))
