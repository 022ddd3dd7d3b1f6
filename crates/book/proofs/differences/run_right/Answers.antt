-- `book::differences::run_right` meets its contract. Assumes nothing.
use Rattle.std.proofs.Common.{rules, arith, w32, SFits}
use Rattle.arith.specs.Lists.{at}
use Rattle.arith.proofs.Bits.{reads}
use Rattle.arith.proofs.Tests.{every_none, every_next}
use Rattle.book.proofs.differences.run_right.Goals as goal

pub loop-i-init : goal.loop-i-init
loop-i-init c = every_none _

pub loop-i-preserved : goal.loop-i-preserved
loop-i-preserved c =
    let i = c.loop-i.i in
    let to-fits : SFits w32 (at c.args.differences.now i) = search rules in
    let next_fits : SFits w32 (at c.args.next.now i) = search rules in
    let from-fits : SFits w32 (at c.args.from.now i) = search rules in
    let rule = simp (reads, to-fits, next_fits, from-fits) at c.follows-right.ensures in
    every_next i _ c.loop-i.invariant (rule (c.requires.next_small i (omega arith)) (c.requires.from_small i (omega arith)))
