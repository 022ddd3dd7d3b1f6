-- `levels::writer::first_level` meets its contract. Assumes nothing.
use mathlib.Core.Path.{◌≡◌, sym, ap₂, ◌∙◌}
use Prim.Native.Nat.{◌+◌, ◌^◌, ◌≤◌}
use native.Mathlib.Omega.{arith}
use borrow.Author.Count.{below_more}
use lib.IntN.{pos, nat_abs, ◌*ℤ◌}
use lib.ListN.{set}
use lib.Seq.{paste}
use lib.Signed.{nat_abs-le}
use mir.Syntax.{w16, w32}
use mir.Val.{SFits}
use Rattle.arith.specs.Lists.{at}
use Rattle.arith.proofs.Linear.{linear}
use Rattle.arith.proofs.Bits.{reads, to_z_of_z_from}
use Rattle.arith.proofs.Lists.{paste_more, paste_all}
use Rattle.levels.specs.Levels.{first_level}
use Rattle.levels.proofs.Laws.{length_first, at_first}
use Rattle.levels.proofs.writer.first_level.Goals as goal

pub loop-i-preserved : goal.loop-i-preserved
loop-i-preserved c =
    let samples = c.args.samples.now in
    let given = c.args.store.now in
    let i = c.loop-i.i in
    let x = at samples i in
    let f : SFits w16 x = record { sfits = omega arith } in
    let g : SFits w32 (x *ℤ pos 256) = simp linear (omega (arith, simp linear at f)) in
    let e : i ≡ 0 + i = omega arith in
    let written : set c.loop-i.store i (x *ℤ pos 256) ≡ paste given 0 (first_level samples) (i + 1) =
    ap₂ (λ l k. set l k (x *ℤ pos 256)) c.loop-i.invariant.0 e
    ∙ paste_more given 0 (first_level samples) i (pos 0) (x *ℤ pos 256) (omega arith) (omega (arith, length_first samples)) (sym (at_first samples i)) in (
      simp (reads, to_z_of_z_from w16, f, g) written,
      below_more (λ k. nat_abs (at samples k) ≤ 2 ^ 15) i c.loop-i.invariant.1 (nat_abs-le x f.sfits),
    )

pub returns-clause-written : goal.returns-clause-written
returns-clause-written c =
    c.loop-i.invariant.0 ∙ paste_all c.args.store.now 0 (first_level c.args.samples.now) c.loop-i.i (omega (arith, length_first c.args.samples.now))
