-- `pair_sums::parts::sample_part` meets its contract: the shift is the floor. Assumes nothing.
use mathlib.Core.Path.{ap, ◌∙◌}
use lib.IntN.{pos, negsuc}
use lib.Signed.{shr_z}
use mir.Syntax.{w16, w32}
use mir.Val.{SFits}
use Rattle.arith.specs.Limit.{limit}
use Rattle.arith.proofs.Bits.{reads}
use Rattle.arith.proofs.Floor.{floor_fits}
use Rattle.pair_sums.proofs.Pairs.{shift-floor}
use Rattle.pair_sums.proofs.parts.sample_part.Goals as goal
use Rattle.pair_sums.proofs.parts.sample_part.Goals.{Start}

shifted_fits : (s : Start) → SFits w32 (shr_z s.args.x 256)
shifted_fits s = rw (shift-floor s.args.x 256) (floor_fits w32 s.args.x 256 s.ranges.x)

pub returns : goal.returns
returns c = let s = c.before in
    let f : SFits w16 c.narrow.result = record { sfits = c.narrow.type_inv } in
    simp (reads, f) ((simp (reads, s.ranges.x, shifted_fits s) at c.narrow.ensures) ∙ ap (limit (negsuc 32767) (pos 32767)) (shift-floor s.args.x 256))
