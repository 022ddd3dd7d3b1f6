-- `decimation::sample` meets its contract: what is rounded is small enough for the limit. Assumes nothing.
use mathlib.Core.Path.{◌≡◌}
use Prim.Native.Nat.{◌^◌, ◌≤◌}
use native.Mathlib.Omega.{arith}
use lib.IntN.{nat_abs}
use lib.Signed.{lt_z_yes, le_z_yes}
use mir.Syntax.{w16, w32, w64}
use mir.Val.{SFits}
use Rattle.arith.specs.Floor.{near}
use Rattle.arith.proofs.Bits.{reads}
use Rattle.arith.proofs.Floor.{near_bound}
use Rattle.arith.proofs.Integers.{abs_fits}
use Rattle.decimation.specs.Inner.{sample_of}
use Rattle.decimation.proofs.sample.Goals as goal
use Rattle.decimation.proofs.sample.Goals.{After-near}

pub near-requires : goal.near-requires
near-requires c = simp (reads, c.ranges.sum) (record { far_from_ends = omega arith; half_low = lt_z_yes tt; half_high = le_z_yes tt })

module _ (c : After-near) where
  rounded_is : c.near.result ≡ near c.before.args.sum (2 ^ 22)
  rounded_is = simp (reads, c.before.ranges.sum) at c.near.ensures

  rounded_small : nat_abs c.near.result ≤ 2 ^ 22
  rounded_small = rw rounded_is (near_bound c.before.args.sum (omega arith) (2 ^ 22) (omega arith))

  rounded_fits : SFits w64 c.near.result
  rounded_fits = record { sfits = c.near.type_inv }

  rounded_fits_32 : SFits w32 c.near.result
  rounded_fits_32 = abs_fits w32 c.near.result (omega (arith, rounded_small))

pub overflow_cast-near : goal.overflow_cast-near
overflow_cast-near c = simp (reads, rounded_fits c) (rounded_fits_32 c)

pub limit16-requires : goal.limit16-requires
limit16-requires c = simp (reads, rounded_fits c, rounded_fits_32 c) (omega (arith, rounded_small c))

pub returns : goal.returns
unfolding sample_of
returns c =
    let n = c.before in
    let fits : SFits w16 c.limit16.result = record { sfits = c.limit16.type_inv } in
    simp (reads, fits) (rw (← rounded_is n) (simp (reads, rounded_fits n, rounded_fits_32 n) at c.limit16.ensures))
