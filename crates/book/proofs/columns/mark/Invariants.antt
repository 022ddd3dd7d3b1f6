-- `book::columns::mark` meets its contract. The loop's invariant: no bound fell, and those passed tell of their differences. Assumes nothing.
use Rattle.std.proofs.Common.{ℕ, ◌<◌}
use Rattle.arith.specs.Lists.{at}
use Rattle.book.specs.Columns.{Tested, Raised}
use Rattle.book.proofs.columns.mark.Given as goal

abbrev pub invariant-loop-k : goal.invariant-loop-k
invariant-loop-k l = Raised l.initial.bounds l.bounds × ((j : ℕ) → j < l.k → Tested (at l.bounds j) (at l.differences j) (at l.next j) (at l.from j))
