-- `control::moves::glide_rate` meets its contract: the way is at most 2^48, and the rate is a mean of R0 and R1, so not negative. Assumes nothing.
use mathlib.Core.Path.{◌≡◌, ap, ◌∙◌}
use Prim.Native.Nat.{ℕ, ◌^◌, ◌≤◌, ◌<◌}
use native.Mathlib.Omega.{arith}
use lib.IntN.{ℤ, pos, nat_abs, ◌+ℤ◌, ◌-ℤ◌, ◌*ℤ◌}
use mir.Syntax.{w64}
use mir.Val.{SFits, to_z, of_z}
use Rattle.arith.specs.Floor.{floor_div}
use Rattle.arith.proofs.Bits.{reads}
use Rattle.arith.proofs.Linear.{linear}
use Rattle.arith.proofs.Integers.{abs-≤, abs_fits, abs-*-≤}
use Rattle.control.specs.declared.Glide.{Glide}
use Rattle.control.specs.Moves.{glide_rate}
use Rattle.control.proofs.Kept.{glide-is, glide_high}
use Rattle.control.proofs.moves.glide_rate.Goals as goal
use Rattle.control.proofs.moves.glide_rate.Goals.{After-floor_div, Start}

module _ (s : Start) where
  abbrev g : Glide
  g = s.args.g

  abbrev j : ℕ
  j = s.args.j

  -- R0, R1, j and c are the same numbers in an i64
  start_low : g.start < 2 ^ 63
  start_low = omega arith

  target_low : g.target < 2 ^ 63
  target_low = omega arith

  j_low : j < 2 ^ 63
  j_low = omega arith

  count_low : g.count < 2 ^ 63
  count_low = omega arith

  abbrev step : ℤ
  step = pos g.target -ℤ pos g.start

  abbrev way : ℤ
  way = step *ℤ pos j

  step_size : nat_abs step ≤ 2 ^ 32
  step_size = abs-≤ step (simp linear (omega arith))

  step_fits : SFits w64 step
  step_fits = abs_fits w64 step (omega (arith, step_size))

  way_fits : SFits w64 way
  way_fits = let n : j ≤ 65536 = omega arith in abs_fits w64 way (omega (arith, abs-*-≤ step (pos j) step_size n))

  -- a mean of R0 and R1 lies between them
  rate_is : pos g.start +ℤ floor_div way g.count ≡ pos (glide_rate g j)
  rate_is = glide-is g j s.requires.3 s.requires.2

  rate_high : glide_rate g j < 2 ^ 63
  rate_high = omega (arith, glide_high g j s.requires.3 s.requires.2 (2 ^ 32) (omega arith) (omega arith))

pub overflow_sub-way : goal.overflow_sub-way
overflow_sub-way c = let s = c.before.before in simp (reads, start_low s, target_low s) (step_fits s)

pub overflow_mul-way : goal.overflow_mul-way
overflow_mul-way c = let s = c.before.before in simp (reads, start_low s, target_low s, j_low s, step_fits s) (way_fits s)

pub floor_div-requires : goal.floor_div-requires
floor_div-requires c = let s = c.before.before.before in simp (reads, count_low s) (simp linear (omega arith))

-- what the call leaves, as the code reads it
result-is : (c : After-floor_div) → to_z w64 c.before.before.before.before.args.g.start +ℤ to_z w64 (of_z w64 c.floor_div.result) ≡ pos (glide_rate (g c.before.before.before.before) (j c.before.before.before.before))
result-is c =
    let s = c.before.before.before.before in
    let e : c.floor_div.result ≡ floor_div (way s) (g s).count = simp (reads, start_low s, target_low s, j_low s, count_low s, step_fits s, way_fits s) at c.floor_div.ensures in
    let f : SFits w64 c.floor_div.result = record { sfits = c.floor_div.type_inv } in
    simp (reads, start_low s, f) (ap (λ z. pos (g s).start +ℤ z) e ∙ rate_is s)

pub overflow_add-result : goal.overflow_add-result
overflow_add-result c = let s = c.before.before.before.before in rw (result-is c) (abs_fits w64 (pos (glide_rate (g s) (j s))) (rate_high s))

pub overflow_cast-result : goal.overflow_cast-result
overflow_cast-result c = let s = c.before.before.before.before in simp (result-is c, reads, rate_high s) (tt, omega (arith, rate_high s))

pub returns : goal.returns
returns c = let s = c.before.before.before.before in simp (result-is c, reads, rate_high s)
