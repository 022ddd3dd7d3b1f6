-- `rows::row_of` meets its contract. The loop's invariant: the words passed are written. Assumes nothing.
use Rattle.std.proofs.Common.{rules}
use native.Mathlib.Omega.{arith}
use lib.IntN.{pos, negsuc}
use lib.ListN.{length-set}
use mir.Syntax.{w16, w32}
use mir.Val.{SFits}
use Rattle.arith.specs.Lists.{at}
use Rattle.arith.specs.Limit.{limit}
use Rattle.arith.proofs.Bits.{reads}
use Rattle.arith.proofs.Lists.{filled_more}
use Rattle.rows.proofs.row_of.Goals as goal

pub loop-k-preserved : goal.loop-k-preserved
loop-k-preserved g c =
    let k = c.loop-k.k in
    let words = c.args.words.now in
    let given : SFits w32 (at words k) = search rules in
    let word : SFits w16 c.narrow.result = search rules in (
      simp length-set c.loop-k.invariant.0,
      simp (reads, word) (filled_more (pos 0) (λ j. limit (negsuc 32767) (pos 32767) (at words j)) c.loop-k.row k (omega (arith, c.loop-k.invariant.0)) c.loop-k.invariant.1 (simp (reads, given) at c.narrow.ensures)),
    )
