-- `points::planned::fade_values` meets its contract. Assumes nothing.
use mathlib.Core.Path.{◌≡◌, refl, ap, ◌∙◌}
use Prim.Native.Nat.{ℕ, ◌-◌}
use native.Mathlib.Omega.{arith}
use lib.IntN.{ℤ}
use lib.ListN.{length}
use mir.Syntax.{w64}
use mir.ValLaws.{to_z-of_z}
use Rattle.arith.specs.Lists.{at}
use Rattle.arith.proofs.Bits.{reads}
use Rattle.arith.proofs.Integers.{abs_fits}
use Rattle.arith.proofs.Written.{written, written_none, written_next, all_written}
use Rattle.points.specs.Inner.{faded}
use Rattle.points.proofs.planned.fade_values.Goals as goal

pub loop-k-init : goal.loop-k-init
loop-k-init c = written_none c.args.line.now 0 (λ i. faded c.args.fade (c.args.last - i) (at c.args.old.now i) (at c.args.new.now i))

pub loop-k-preserved : goal.loop-k-preserved
unfolding faded
loop-k-preserved c =
    let k = c.loop-k.k in
    let mean : ℕ → ℤ = λ i. faded c.args.fade (c.args.last - i) (at c.args.old.now i) (at c.args.new.now i) in
    let small = c.requires.small k c.loop-k-test.true in
    let old = abs_fits w64 (at c.args.old.now k) (omega (arith, small.0)) in
    let new = abs_fits w64 (at c.args.new.now k) (omega (arith, small.1)) in
    let made = to_z-of_z w64 _ (record { sfits = c.mean.type_inv }) ∙ (simp (reads, old, new) at c.mean.ensures) in
    written_next c.args.line.now 0 mean k _ {place = k} (omega (arith, c.loop-k-test.true)) made (omega arith) c.loop-k.invariant refl

pub returns : goal.returns
returns c =
    let n : ℕ = length c.args.line.now in
    let mean : ℕ → ℤ = λ i. faded c.args.fade (c.args.last - i) (at c.args.old.now i) (at c.args.new.now i) in
    let e : c.loop-k.k ≡ n = omega arith in
    c.loop-k.invariant ∙ ap (written c.args.line.now 0 mean) e ∙ all_written c.args.line.now n mean refl
