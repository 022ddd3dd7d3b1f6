-- `book::columns::raise` meets its contract. The loop's invariant: no bound fell, and those passed bound their words. Assumes nothing.
use Rattle.std.proofs.Common.{ℕ, ◌<◌}
use Rattle.arith.specs.Lists.{at}
use Rattle.book.specs.Columns.{Bounds, Raised}
use Rattle.book.proofs.columns.raise.Given as goal

abbrev pub invariant-loop-k : goal.invariant-loop-k
invariant-loop-k l = Raised l.initial.bounds l.bounds × ((j : ℕ) → j < l.k → Bounds (at l.bounds j) (at l.words j))
