-- `rows::put_narrowed` meets its contract. The loop's invariant: the words passed are written, and no other. Assumes nothing.
use mathlib.Core.Path.{◌∙◌}
use Rattle.std.proofs.Common.{rules}
use native.Mathlib.Omega.{arith}
use lib.IntN.{pos, negsuc}
use lib.Seq.{get_or-set_other}
use mir.Syntax.{w16, w32}
use mir.Val.{SFits}
use Rattle.arith.specs.Lists.{at}
use Rattle.arith.specs.Limit.{limit}
use Rattle.arith.proofs.Bits.{reads}
use Rattle.arith.proofs.Lists.{filled_more}
use Rattle.rows.proofs.put_narrowed.Goals as goal

pub loop-k-preserved : goal.loop-k-preserved
loop-k-preserved c =
    let k = c.loop-k.k in
    let words = c.args.words.now in
    let given : SFits w32 (at words k) = search rules in
    let word : SFits w16 c.narrow.result = search rules in
    simp (reads, word) (
      filled_more (pos 0) (λ j. limit (negsuc 32767) (pos 32767) (at words j)) c.loop-k.row k (omega arith) c.loop-k.invariant.0 (simp (reads, given) at c.narrow.ensures),
      λ j h. get_or-set_other c.loop-k.row k j c.narrow.result (pos 0) (λ e. omega arith) ∙ c.loop-k.invariant.1 j (omega arith),
    )
