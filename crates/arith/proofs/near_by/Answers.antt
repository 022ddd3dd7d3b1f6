-- `arith::near_by` meets its contract: the numbers on the way fit, and `near_up` and `near_down` say what the quotient gives. Assumes
-- nothing.
use mathlib.Core.Path.{◌≡◌, ap, ◌∙◌}
use native.Mathlib.Nat.{mul-le-mul_right}
use native.Mathlib.Omega.{arith}
use Prim.Native.Nat.{ℕ, ◌*◌, ◌^◌, ◌<◌}
use lib.IntN.{ℤ, pos, nat_abs, ◌+ℤ◌, ◌-ℤ◌, ◌*ℤ◌}
use lib.Signed.{lt_z_yes}
use mir.Syntax.{w64}
use mir.Val.{SFits, to_z, of_z}
use Rattle.arith.specs.Floor.{floor_div, near}
use Rattle.arith.proofs.Bits.{reads}
use Rattle.arith.proofs.Linear.{linear, signed, abs-*}
use Rattle.arith.proofs.Integers.{abs_fits}
use Rattle.arith.proofs.Floor.{near_bound, rest_euclid}
use Rattle.arith.proofs.Rounding.{odd_of, near_up, near_down, twice_multiple_fits}
use Rattle.arith.proofs.near_by.Goals as goal
use Rattle.arith.proofs.near_by.Goals.{After-floor_div-up, After-rem_euclid, Start}

module _ (s : Start) where
  abbrev a : ℤ
  a = s.args.a

  abbrev b : ℤ
  b = s.args.b

  abbrev n : ℕ
  n = nat_abs b

  abbrev x : ℤ
  x = pos 2 *ℤ a +ℤ b

  twice_a_fits : SFits w64 (pos 2 *ℤ a)
  twice_a_fits = simp linear (omega (arith, simp linear at s.requires.far_from_ends))

  twice_fits : SFits w64 (pos 2 *ℤ b)
  twice_fits = simp linear (omega signed)

  x_fits : SFits w64 x
  x_fits = simp linear (omega (signed, simp linear at s.requires.far_from_ends))

  some : 0 < n
  some = simp linear (omega signed)

  near_fits : SFits w64 (near a n)
  near_fits = abs_fits w64 (near a n) (omega (arith, near_bound a some (2 ^ 60) (omega (arith, s.requires.far_from_ends, mul-le-mul_right (2 ^ 60) some))))

pub overflow_mul-x : goal.overflow_mul-x
overflow_mul-x c = simp (reads, c.ranges.a) (twice_a_fits c)

pub overflow_add-x : goal.overflow_add-x
overflow_add-x c = simp (reads, c.ranges.a, c.ranges.b, twice_a_fits c) (x_fits c)

-- the quotient, and its multiple of the divisor
module _ (c : After-floor_div-up) where
  abbrev s : Start
  s = c.before

  abbrev up : ℤ
  up = c.floor_div-up.result

  up_fits : SFits w64 up
  up_fits = record { sfits = c.floor_div-up.type_inv }

  up_is : up ≡ floor_div (x s) (2 * n s)
  up_is = simp (reads, s.ranges.a, s.ranges.b, twice_a_fits s, x_fits s, twice_fits s, abs-*) at c.floor_div-up.ensures

  abbrev multiple : ℤ
  multiple = up *ℤ (pos 2 *ℤ b s)

  fits : SFits w64 multiple
  fits = twice_multiple_fits (a s) up s.requires.divisor_low s.requires.divisor_high s.requires.far_from_ends up_is

pub overflow_mul-up : goal.overflow_mul-up
overflow_mul-up c = let l = s c in simp (reads, l.ranges.b, up_fits c, twice_fits l) (fits c)

-- at a half
module _ (c : After-rem_euclid) where
  abbrev l : After-floor_div-up
  l = c.before.before

  odd_is : c.rem_euclid.result ≡ odd_of (up l)
  odd_is = (simp (reads, up_fits l) at c.rem_euclid.ensures.value) ∙ rest_euclid (up l) {b = pos 2} (lt_z_yes tt)

  odd_fits : SFits w64 c.rem_euclid.result
  odd_fits = record { sfits = c.rem_euclid.type_inv }

  result-is : up l -ℤ c.rem_euclid.result ≡ near (a (s l)) (n (s l))
  result-is =
      let f = s l in
      let e : multiple l ≡ x f = simp (reads, f.ranges.a, f.ranges.b, up_fits l, twice_a_fits f, twice_fits f, fits l, x_fits f) at (ap (to_z w64) c.if-up-b.true) in
      near_down (a f) (up l) c.rem_euclid.result f.requires.divisor_low (up_is l) e odd_is

  result_fits : SFits w64 (up l -ℤ c.rem_euclid.result)
  result_fits = rw result-is (near_fits (s l))

pub overflow_sub-result : goal.overflow_sub-result
overflow_sub-result c = simp (reads, up_fits (l c), odd_fits c) (result_fits c)

pub returns-then-up-b : goal.returns-then-up-b
returns-then-up-b c = simp (reads, up_fits (l c), odd_fits c, result_fits c) (result-is c)

pub returns-else-up-b : goal.returns-else-up-b
returns-else-up-b c =
    let d = c.before in
    let f = s d in
    let apart : multiple d ≡ x f → ⊥ = λ e. c.if-up-b.false (simp (reads, f.ranges.a, f.ranges.b, up_fits d, twice_a_fits f, twice_fits f) (ap (of_z w64) e)) in
    simp (reads, up_fits d) (near_up (a f) (up d) f.requires.divisor_low (up_is d) apart)
