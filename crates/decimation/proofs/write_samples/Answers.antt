-- `decimation::write_samples` meets its contract. Assumes nothing.
use mathlib.Core.Path.{refl, ◌∙◌}
use native.Mathlib.Omega.{arith}
use mir.Syntax.{w16, w64}
use mir.ValLaws.{to_z-of_z}
use Rattle.arith.specs.Lists.{at}
use Rattle.arith.proofs.Bits.{reads}
use Rattle.arith.proofs.Written.{written_none, written_next}
use Rattle.arith.proofs.Integers.{abs_fits}
use Rattle.decimation.specs.Inner.{sample_of}
use Rattle.decimation.proofs.write_samples.Goals as goal

pub loop-j-init : goal.loop-j-init
loop-j-init g c = written_none c.args.out.now 0 (λ i. sample_of (at c.args.sums.now i))

pub loop-j-preserved : goal.loop-j-preserved
loop-j-preserved g c =
    let j = c.loop-j.j in
    let f = abs_fits w64 (at c.args.sums.now j) (omega (arith, c.requires.small j c.loop-j-test.true)) in
    let written = to_z-of_z w16 _ (record { sfits = c.sample.type_inv }) ∙ (simp (reads, f) at c.sample.ensures) in
    written_next c.args.out.now 0 (λ i. sample_of (at c.args.sums.now i)) j _ {place = j} (omega arith) written (omega arith) c.loop-j.invariant refl
