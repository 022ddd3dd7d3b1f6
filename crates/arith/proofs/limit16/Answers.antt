-- `arith::limit16` meets its contract: the limit by two positive parts, at the ends of 16 bits. Assumes nothing.
use mathlib.Core.Path.{◌≡◌}
use native.Mathlib.Omega.{arith}
use lib.IntN.{ℤ, ◌-ℤ◌}
use lib.Signed.{◌≤ℤ◌, le_z_yes}
use mir.Syntax.{w16, w32}
use mir.Val.{SFits}
use mir.Facts.{sfits_widen}
use Rattle.arith.specs.Limit.{limit}
use Rattle.arith.proofs.Bits.{reads}
use Rattle.arith.proofs.Limit.{low, high, Positive, positive, not_below_0, limit_by_parts, limit_between}
use Rattle.arith.proofs.Linear.{linear}
use Rattle.arith.proofs.limit16.Goals as goal
use Rattle.arith.proofs.limit16.Goals.{After-positive_part-left, After-positive_part-risen, Start}

ends : low ≤ℤ high
ends = le_z_yes tt

module _ (c : Start) where
  abbrev x : ℤ
  x = c.args.x

  height_fits : SFits w32 (x -ℤ low)
  height_fits = simp linear (omega (arith, simp linear at c.requires))

module _ (c : After-positive_part-risen) where
  abbrev risen : ℤ
  risen = c.positive_part-risen.result

  risen_fits : SFits w32 risen
  risen_fits = record { sfits = c.positive_part-risen.type_inv }

  risen_is : Positive (x c.before -ℤ low) risen
  risen_is = positive (x c.before -ℤ low) risen (simp (reads, c.before.ranges.x, height_fits c.before) at c.positive_part-risen.ensures)

  room_fits : SFits w32 (high -ℤ low -ℤ risen)
  room_fits = simp linear (omega (arith, simp linear at (not_below_0 risen_is), simp linear at risen_fits))

module _ (c : After-positive_part-left) where
  abbrev left : ℤ
  left = c.positive_part-left.result

  left_fits : SFits w32 left
  left_fits = record { sfits = c.positive_part-left.type_inv }

  left_is : Positive (high -ℤ low -ℤ risen c.before) left
  left_is = positive (high -ℤ low -ℤ risen c.before) left (simp (reads, risen_fits c.before, room_fits c.before) at c.positive_part-left.ensures)

  result-is : high -ℤ left ≡ limit low high (x c.before.before)
  result-is = limit_by_parts low high (x c.before.before) ends (risen_is c.before) left_is

  result_small : SFits w16 (high -ℤ left)
  result_small =
      let b = limit_between low high (x c.before.before) ends in
      rw result-is (simp linear (omega (arith, simp linear at b.0, simp linear at b.1)))

  result_fits : SFits w32 (high -ℤ left)
  result_fits = sfits_widen tt result_small

pub overflow_sub-result : goal.overflow_sub-result
overflow_sub-result c = simp (reads, left_fits c) (result_fits c)

pub overflow_cast-result : goal.overflow_cast-result
overflow_cast-result c = simp (reads, left_fits c, result_fits c) (result_small c)

pub returns : goal.returns
returns c = simp (reads, left_fits c, result_fits c, result_small c) (result-is c)
