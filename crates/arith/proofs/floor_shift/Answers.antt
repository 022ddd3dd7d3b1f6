-- `arith::floor_shift` meets its contract. Assumes nothing.
use mir.Syntax.{w64}
use mir.Val.{SFits}
use Rattle.arith.proofs.Bits.{reads}
use Rattle.arith.proofs.Floor.{quot_fits}
use Rattle.arith.proofs.Rounding.{shift_fits, shift_floor}
use Rattle.arith.proofs.floor_shift.Goals as goal

pub returns : goal.returns
returns c =
    let q = c.requires in
    let rest : SFits w64 c.rem_euclid.result = record { sfits = c.rem_euclid.type_inv } in
    let e = simp (reads, c.ranges.a, c.ranges.b) at c.rem_euclid.ensures.value in
    let left = shift_fits c.args.a c.rem_euclid.result q.divisor_low q.far_from_ends q.divisor_high e in
    simp (reads, c.ranges.a, c.ranges.b, rest, left, quot_fits w64 _ q.divisor_low left) (shift_floor c.args.a c.rem_euclid.result q.divisor_low e)
