-- `points::planned::mean` meets its contract: the weights add up to the fade's length, so that the sum is no larger than the fade times a value.
-- Assumes nothing.
use mathlib.Core.Path.{◌≡◌}
use Prim.Native.Nat.{ℕ, ◌*◌, ◌-◌, ◌^◌, ◌≤◌, ◌<◌}
use native.Mathlib.Nat.{mul-le-mul_right}
use native.Mathlib.Omega.{arith}
use lib.IntN.{ℤ, pos, nat_abs, ◌+ℤ◌, ◌*ℤ◌}
use mir.Syntax.{w64}
use mir.Val.{SFits}
use Rattle.arith.specs.Floor.{near}
use Rattle.arith.proofs.Bits.{reads}
use Rattle.arith.proofs.Integers.{abs_fits, abs_triangle}
use Rattle.arith.proofs.Linear.{linear, abs-pos-*}
use Rattle.points.proofs.planned.mean.Goals as goal
use Rattle.points.proofs.planned.mean.Goals.{After-near_by, Start}

module _ (s : Start) where
  abbrev rest : ℕ
  rest = s.args.fade - s.args.step

  abbrev mix : ℤ
  mix = pos rest *ℤ s.args.old +ℤ pos s.args.step *ℤ s.args.new

  rest_low : rest < 2 ^ 63
  rest_low = omega arith

  step_low : s.args.step < 2 ^ 63
  step_low = omega arith

  fade_low : s.args.fade < 2 ^ 63
  fade_low = omega arith

  old_size : nat_abs (pos rest *ℤ s.args.old) ≤ 2 ^ 29 * rest
  old_size = omega (arith, abs-pos-* rest s.args.old, mul-le-mul_right rest s.requires.0)

  new_size : nat_abs (pos s.args.step *ℤ s.args.new) ≤ 2 ^ 29 * s.args.step
  new_size = omega (arith, abs-pos-* s.args.step s.args.new, mul-le-mul_right s.args.step s.requires.1)

  mix_size : nat_abs mix ≤ s.args.fade * 2 ^ 29
  mix_size = omega (arith, abs_triangle (pos rest *ℤ s.args.old) (pos s.args.step *ℤ s.args.new), old_size, new_size)

  old_fits : SFits w64 (pos rest *ℤ s.args.old)
  old_fits = abs_fits w64 (pos rest *ℤ s.args.old) (omega (arith, old_size))

  new_fits : SFits w64 (pos s.args.step *ℤ s.args.new)
  new_fits = abs_fits w64 (pos s.args.step *ℤ s.args.new) (omega (arith, new_size))

  mix_fits : SFits w64 mix
  mix_fits = abs_fits w64 mix (omega (arith, mix_size))

-- the result
module _ (c : After-near_by) where
  result-is : c.near_by.result ≡ near (mix c.before) c.before.args.fade
  result-is =
      let s = c.before in
      simp (reads, rest_low s, step_low s, fade_low s, s.ranges.old, s.ranges.new, old_fits s, new_fits s, mix_fits s) at c.near_by.ensures

pub overflow_mul-sum : goal.overflow_mul-sum
overflow_mul-sum c = simp (reads, rest_low c, c.ranges.old) (old_fits c)

pub overflow_mul-sum-2 : goal.overflow_mul-sum-2
overflow_mul-sum-2 c = simp (reads, step_low c, c.ranges.new) (new_fits c)

pub overflow_add-sum : goal.overflow_add-sum
overflow_add-sum c = simp (reads, rest_low c, step_low c, c.ranges.old, c.ranges.new, old_fits c, new_fits c) (mix_fits c)

pub near_by-requires : goal.near_by-requires
near_by-requires c =
    simp (reads, rest_low c, step_low c, fade_low c, c.ranges.old, c.ranges.new, old_fits c, new_fits c, mix_fits c)
    (record { far_from_ends = omega (arith, mix_size c); divisor_low = simp linear (omega arith); divisor_high = simp linear (omega arith) })

pub returns : goal.returns
returns c = let fits : SFits w64 c.near_by.result = record { sfits = c.near_by.type_inv } in simp (reads, fits) (result-is c)
