-- `rows::spread` meets its contract. The loop's invariant: the rows passed are written, and 0 stands behind them. Assumes nothing.
use Rattle.arith.specs.Lists.{at}
use Rattle.rows.specs.Rows.{PhasesOf}
use Rattle.rows.proofs.spread.Given as goal

abbrev pub invariant-loop-q : goal.invariant-loop-q
invariant-loop-q l = PhasesOf (at l.words) 4 8 l.q l.table
