-- `rows::rows_by` meets its contract. The loop's invariant: the rows of the phases passed are written, and 0 stands behind them. Assumes nothing.
use Rattle.rows.specs.Rows.{narrowed, PhasesOf}
use Rattle.rows.proofs.rows_by.Given as goal

abbrev pub invariant-loop-q : goal.invariant-loop-q
invariant-loop-q g l = PhasesOf (narrowed l.book) g.row.N g.row.W l.q l.table
