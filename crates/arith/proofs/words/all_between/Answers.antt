-- `arith::words::all_between` meets its contract. Assumes nothing.
use mir.Syntax.{w32}
use mir.Val.{SFits}
use mir.ValLaws.{to_z-of_z}
use Rattle.std.proofs.Common.{rules}
use Rattle.arith.specs.Lists.{at}
use Rattle.arith.proofs.Tests.{every_none, every_next}
use Rattle.arith.proofs.words.all_between.Goals as goal

pub loop-x-init : goal.loop-x-init
loop-x-init c = every_none _

pub loop-x-preserved : goal.loop-x-preserved
loop-x-preserved c =
    let word_fits : SFits w32 (at c.args.words.now c.loop-x.x-index) = search rules in
    every_next c.loop-x.x-index _ c.loop-x.invariant (simp (to_z-of_z w32 _ word_fits) at c.between-all.ensures)
