-- `pair_sums::parts::upper_part` meets its contract: the shift is the floor. Assumes nothing.
use native.Mathlib.Omega.{arith}
use lib.IntN.{ℤ, pos, ◌+ℤ◌}
use lib.Signed.{shr_z}
use mir.Syntax.{w16, w32}
use mir.Val.{SFits}
use mir.Facts.{sfits_widen}
use Rattle.arith.proofs.Bits.{reads}
use Rattle.arith.proofs.Integers.{abs_triangle, abs_fits}
use Rattle.pair_sums.specs.Pairs.{upper_part}
use Rattle.pair_sums.proofs.Pairs.{shift-floor, upper_small}
use Rattle.pair_sums.proofs.parts.upper_part.Goals as goal
use Rattle.pair_sums.proofs.parts.upper_part.Goals.{Start}

module _ (s : Start) where
  abbrev raised : ℤ
  raised = s.args.x +ℤ pos 32768

  raised_fits : SFits w32 raised
  raised_fits = abs_fits w32 raised (omega (arith, abs_triangle s.args.x (pos 32768), s.requires))

  part_fits : SFits w16 (shr_z raised 65536)
  part_fits = rw (shift-floor raised 65536) (abs_fits w16 (upper_part s.args.x) (omega (arith, upper_small s.args.x s.requires)))

  part_fits_wide : SFits w32 (shr_z raised 65536)
  part_fits_wide = sfits_widen tt part_fits

pub overflow_add-result : goal.overflow_add-result
overflow_add-result c = simp (reads, c.ranges.x) (raised_fits c)

pub overflow_cast-result : goal.overflow_cast-result
overflow_cast-result c = simp (reads, c.ranges.x, raised_fits c, part_fits_wide c) (part_fits c)

pub returns : goal.returns
returns c = simp (reads, c.ranges.x, raised_fits c, part_fits_wide c, part_fits c) (shift-floor (raised c) 65536)
