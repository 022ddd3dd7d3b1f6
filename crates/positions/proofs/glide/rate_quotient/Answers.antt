-- `positions::glide::rate_quotient` meets its contract: no number on the way is above 2^50. Assumes nothing.
use Prim.Native.Nat.{◌^◌, ◌<◌}
use native.Mathlib.Omega.{arith}
use lib.IntN.{ℤ, pos, ◌+ℤ◌, ◌-ℤ◌, ◌*ℤ◌}
use mir.Syntax.{w64}
use mir.Val.{SFits}
use Rattle.arith.proofs.Bits.{reads}
use Rattle.arith.proofs.Linear.{linear}
use Rattle.arith.proofs.Integers.{abs_fits}
use Rattle.control.specs.declared.Glide.{Glide}
use Rattle.positions.specs.Inner.{GlideFits, glide_sum}
use Rattle.positions.proofs.Glides.{way_high, start_product, way_product, sum_high}
use Rattle.positions.proofs.glide.rate_quotient.Goals as goal
use Rattle.positions.proofs.glide.rate_quotient.Goals.{Start}

module _ (e : Start) where
  abbrev g : Glide
  g = e.args.g

  fits : GlideFits g
  fits = e.requires

  -- R0, R1, c and j are the same numbers in an i64
  start_low : g.start < 2 ^ 63
  start_low = omega (arith, fits.start_high)

  target_low : g.target < 2 ^ 63
  target_low = omega (arith, fits.target_high)

  count_low : g.count < 2 ^ 63
  count_low = omega (arith, fits.count_high)

  done_low : g.done < 2 ^ 63
  done_low = omega (arith, fits.count_high, fits.done_high)

  abbrev way : ℤ
  way = pos g.target -ℤ pos g.start

  way_fits : SFits w64 way
  way_fits = abs_fits w64 way (omega (arith, way_high g fits))

  start_fits : SFits w64 (pos g.start *ℤ pos g.count)
  start_fits = abs_fits w64 (pos g.start *ℤ pos g.count) (omega (arith, start_product g fits))

  done_fits : SFits w64 (way *ℤ pos g.done)
  done_fits = abs_fits w64 (way *ℤ pos g.done) (omega (arith, way_product g fits g.done (omega (arith, fits.done_high))))

  sum_fits : SFits w64 (pos g.start *ℤ pos g.count +ℤ way *ℤ pos g.done)
  unfolding glide_sum
  sum_fits = abs_fits w64 (pos g.start *ℤ pos g.count +ℤ way *ℤ pos g.done) (omega (arith, sum_high g fits g.done (omega (arith, fits.done_high))))

pub overflow_cast-start : goal.overflow_cast-start
overflow_cast-start c = let l = start_low c.before in simp linear (omega arith)

pub overflow_cast-way : goal.overflow_cast-way
overflow_cast-way c = let l = target_low c.before.before in simp linear (omega arith)

pub overflow_sub-way : goal.overflow_sub-way
overflow_sub-way c = let e = c.before.before in simp (reads, start_low e, target_low e) (way_fits e)

pub overflow_mul-start : goal.overflow_mul-start
overflow_mul-start c = let e = c.before.before in simp (reads, start_low e, count_low e) (start_fits e)

pub overflow_mul-way : goal.overflow_mul-way
overflow_mul-way c = let e = c.before.before.before in simp (reads, start_low e, target_low e, done_low e, way_fits e) (done_fits e)

pub overflow_add-start : goal.overflow_add-start
overflow_add-start c = let e = c.before.before.before in simp (reads, start_low e, target_low e, count_low e, done_low e, way_fits e, start_fits e, done_fits e) (sum_fits e)

pub divided-requires : goal.divided-requires
unfolding glide_sum
divided-requires c =
    let e = c.before.before.before in
    simp (reads, start_low e, target_low e, count_low e, done_low e, way_fits e, start_fits e, done_fits e, sum_fits e)
    (sum_high (g e) (fits e) (g e).done (omega (arith, (fits e).done_high)), omega (arith, (fits e).done_high), (fits e).count_high)

pub returns : goal.returns
unfolding glide_sum
returns c =
    let e = c.before.before.before.before in
    simp (reads, start_low e, target_low e, count_low e, done_low e, way_fits e, start_fits e, done_fits e, sum_fits e) at c.divided.ensures
