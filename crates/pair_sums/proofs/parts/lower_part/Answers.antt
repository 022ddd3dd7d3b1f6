-- `pair_sums::parts::lower_part` meets its contract: what the upper part leaves. Assumes nothing.
use mathlib.Core.Path.{◌≡◌, ap}
use Prim.Native.Nat.{◌≤◌}
use native.Mathlib.Omega.{arith}
use lib.IntN.{ℤ, pos, nat_abs, ◌+ℤ◌, ◌-ℤ◌, ◌*ℤ◌}
use lib.Signed.{shr_z}
use mir.Syntax.{w16, w32}
use mir.Val.{SFits}
use mir.Facts.{sfits_widen}
use Rattle.arith.proofs.Bits.{reads}
use Rattle.arith.proofs.Integers.{abs_triangle, abs-*-≤, abs_fits}
use Rattle.arith.proofs.Linear.{linear}
use Rattle.pair_sums.specs.Pairs.{upper_part, lower_part}
use Rattle.pair_sums.proofs.Pairs.{shift-floor, upper_small, lower_between}
use Rattle.pair_sums.proofs.parts.lower_part.Goals as goal
use Rattle.pair_sums.proofs.parts.lower_part.Goals.{Start}

module _ (s : Start) where
  abbrev x : ℤ
  x = s.args.x

  abbrev y : ℤ
  y = shr_z (x +ℤ pos 32768) 65536

  upper_is : y ≡ upper_part x
  upper_is = shift-floor (x +ℤ pos 32768) 65536

  raised_fits : SFits w32 (x +ℤ pos 32768)
  raised_fits = abs_fits w32 (x +ℤ pos 32768) (omega (arith, abs_triangle x (pos 32768), s.requires))

  y_small : nat_abs y ≤ 2048
  y_small = rw upper_is (upper_small x s.requires)

  y_fits : SFits w32 y
  y_fits = abs_fits w32 y (omega (arith, y_small))

  scaled_fits : SFits w32 (y *ℤ pos 65536)
  scaled_fits = abs_fits w32 (y *ℤ pos 65536) (omega (arith, abs-*-≤ y (pos 65536) {m = 2048} {n = 65536} y_small (omega arith)))

  lower_is : x -ℤ y *ℤ pos 65536 ≡ lower_part x
  lower_is = ap (λ z. x -ℤ z *ℤ pos 65536) upper_is

  low_fits : SFits w16 (x -ℤ y *ℤ pos 65536)
  low_fits = let b = lower_between x in rw lower_is (simp linear (omega (arith, simp linear at b.0, simp linear at b.1)))

  low_fits_wide : SFits w32 (x -ℤ y *ℤ pos 65536)
  low_fits_wide = sfits_widen tt low_fits

pub overflow_add-result : goal.overflow_add-result
overflow_add-result c = simp (reads, c.ranges.x) (raised_fits c)

pub overflow_mul-result : goal.overflow_mul-result
overflow_mul-result c = simp (reads, c.ranges.x, raised_fits c, y_fits c) (scaled_fits c)

pub overflow_sub-result : goal.overflow_sub-result
overflow_sub-result c = simp (reads, c.ranges.x, raised_fits c, y_fits c, scaled_fits c) (low_fits_wide c)

pub overflow_cast-result : goal.overflow_cast-result
overflow_cast-result c = simp (reads, c.ranges.x, raised_fits c, y_fits c, scaled_fits c, low_fits_wide c) (low_fits c)

pub returns : goal.returns
returns c = simp (reads, c.ranges.x, raised_fits c, y_fits c, scaled_fits c, low_fits_wide c, low_fits c) (lower_is c)
