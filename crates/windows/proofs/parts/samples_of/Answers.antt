-- `windows::parts::samples_of` meets its contract. The loop's invariant: where no misses are counted, the words passed are samples. Assumes nothing.
use Rattle.std.proofs.Common.{rules}
use lib.IntN.{pos, ◌*ℤ◌}
use mir.Syntax.{w16, w32}
use mir.Val.{SFits}
use mir.Facts.{sfits_widen}
use native.Mathlib.Omega.{arith}
use Rattle.arith.specs.Lists.{at}
use Rattle.arith.proofs.Bits.{reads, to_z_of_z_from}
use Rattle.arith.proofs.Linear.{linear}
use Rattle.windows.proofs.WordParts.{samples_more, multiple}
use Rattle.windows.proofs.parts.samples_of.Goals as goal

pub loop-k-preserved : goal.loop-k-preserved
loop-k-preserved c =
    let k = c.loop-k.k in
    let x = at c.args.window.now k in
    let s = c.narrow-s.result in
    let x_fits : SFits w32 x = search rules in
    let s_fits : SFits w16 s = search rules in
    let s_fits_wide : SFits w32 s = sfits_widen tt s_fits in
    let product : SFits w32 (s *ℤ pos 256) = simp linear (omega (arith, simp linear at s_fits)) in
    let found = simp (reads, to_z_of_z_from w16, s_fits, s_fits_wide) at c.miss-misses.ensures.0 in
    let before = c.loop-k.invariant in
    simp (reads, s_fits) (
      omega (arith, c.miss-misses.ensures.1),
      λ e. samples_more c.args.window.now c.loop-k.first c.loop-k.second k s (omega arith) (omega arith) (before.1 (omega arith)) (multiple s x_fits product found (omega arith))
          (simp linear (omega (arith, simp linear at s_fits)), simp linear (omega (arith, simp linear at s_fits))),
    )
