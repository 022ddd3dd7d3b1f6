-- `decimation::first_sums` meets its contract. Assumes nothing.
use Prim.Native.Nat.{◌-◌, ◌*◌, ◌^◌, ◌≤◌}
use native.Mathlib.Omega.{arith}
use lib.IntN.{nat_abs, ◌*ℤ◌}
use lib.ListN.{length-set}
use mir.Syntax.{w64}
use mir.Val.{SFits}
use Rattle.arith.specs.Lists.{at}
use Rattle.arith.proofs.Bits.{reads}
use Rattle.arith.proofs.Integers.{abs-*-≤, abs_fits}
use Rattle.decimation.proofs.Lanes.{made_more}
use Rattle.decimation.proofs.first_sums.Goals as goal

pub loop-j-preserved : goal.loop-j-preserved
loop-j-preserved g c =
    let v = c.loop-j.invariant in
    let x = at c.args.line.points.now (c.args.centre - 2 * c.loop-j.j) in
    let small : nat_abs x ≤ 2 ^ 29 = c.args.line.small (c.args.centre - 2 * c.loop-j.j) in
    let point : SFits w64 x = abs_fits w64 x (omega (arith, small)) in
    let product : SFits w64 (c.args.tap *ℤ x) = abs_fits w64 (c.args.tap *ℤ x) (omega (arith, abs-*-≤ c.args.tap x c.requires.small small)) in record {
      length = simp (length-set) v.length;
      made = made_more _ c.loop-j.sums c.loop-j.j _ (omega (arith, v.length)) v.made (simp (reads, c.ranges.tap, point, product));
    }
