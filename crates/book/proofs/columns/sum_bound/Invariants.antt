-- `book::columns::sum_bound` meets its contract. The loop's invariant: the sum is that of the taps passed. Assumes nothing.
use Rattle.std.proofs.Common.{◌≡◌, ◌*◌, ◌≤◌}
use Rattle.arith.specs.Sum.{total}
use Rattle.book.specs.Columns.{tap_bound}
use Rattle.book.proofs.columns.sum_bound.Given as goal

abbrev pub invariant-loop-k : goal.invariant-loop-k
invariant-loop-k l = (l.sum ≡ total l.k (tap_bound l.bounds l.taps)) × (l.sum ≤ l.k * 65537)
