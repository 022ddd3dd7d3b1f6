-- `decimation::add_tap` meets its contract. Assumes nothing.
use mathlib.Core.Path.{◌≡◌, ap, ◌∙◌}
use Prim.Native.Nat.{◌+◌, ◌-◌, ◌*◌}
use native.Mathlib.Nat.{le_refl}
use native.Mathlib.Omega.{arith}
use lib.IntN.{◌+ℤ◌, ◌*ℤ◌}
use lib.ListN.{length-set}
use mir.Syntax.{w64}
use mir.Val.{SFits}
use mir.ValLaws.{to_z-of_z}
use Rattle.arith.specs.Lists.{at}
use Rattle.arith.proofs.Bits.{reads, read64}
use Rattle.arith.proofs.Integers.{abs_fits}
use Rattle.decimation.proofs.Lanes.{made_more, left_less}
use Rattle.decimation.proofs.add_tap.Goals as goal

pub loop-j-preserved : goal.loop-j-preserved
loop-j-preserved g c =
    let v = c.loop-j.invariant in
    let j = c.loop-j.j in
    let e : at c.loop-j.sums j ≡ at c.args.sums.now j = v.left j (le_refl j) in
    let f : SFits w64 (at c.loop-j.sums j) = rw e (abs_fits w64 (at c.args.sums.now j) (omega (arith, c.requires.sums_small j c.loop-j-test.true))) in
    let added = simp (reads, f) at c.tap_added.ensures in record {
      length = simp (length-set) v.length;
      added = made_more _ c.loop-j.sums j _ (omega (arith, v.length)) v.added (to_z-of_z w64 _ (record { sfits = c.tap_added.type_inv }) ∙ added ∙ ap (λ x. x +ℤ read64 c.args.tap *ℤ (at c.args.line.points.now (c.args.centre - 2 * j - c.args.k) +ℤ at c.args.line.points.now (c.args.centre - 2 * j + c.args.k))) e);
      left = left_less c.loop-j.sums c.args.sums.now j _ v.left;
    }
