-- `book::columns::sum_bound` meets its contract. Assumes nothing.
use Rattle.std.proofs.Common.{◌+◌, sym, refl, ◌∙◌, ap₂, arith}
use Rattle.arith.specs.Sum.{total}
use Rattle.arith.proofs.Sum.{total_more}
use Rattle.book.specs.Columns.{tap_bound}
use Rattle.book.proofs.columns.sum_bound.Goals as goal

pub loop-k-init : goal.loop-k-init
unfolding total
loop-k-init c = (refl, omega arith)

pub loop-k-preserved : goal.loop-k-preserved
loop-k-preserved c =
    let l = c.loop-k in
    (ap₂ ◌+◌ l.invariant.0 c.tap_bound-sum.ensures.0 ∙ sym (total_more l.k (tap_bound c.args.bounds.now c.args.taps)), omega (arith, c.tap_bound-sum.ensures.1))
