-- `arith::narrow` meets its contract. Assumes nothing.
use mathlib.Core.Path.{◌∙◌}
use native.Mathlib.Omega.{arith}
use lib.IntN.{pos, negsuc}
use mir.Syntax.{w16, w32}
use mir.Val.{SFits}
use Rattle.std.proofs.Common.{rules}
use Rattle.std.proofs.lemmas.Int.{ints}
use Rattle.arith.proofs.Bits.{reads}
use Rattle.arith.proofs.Limit.{limit_clamp}
use Rattle.arith.proofs.narrow.Goals as goal

pub returns : goal.returns
returns c =
    let word : SFits w32 c.clamp.result = search rules in
    let fits : SFits w16 c.clamp.result = search rules in
    simp (reads, word, fits) ((simp (reads, c.ranges.x) at c.clamp.ensures.value) ∙ limit_clamp (negsuc 32767) (pos 32767) c.args.x (omega (arith, ints)))
