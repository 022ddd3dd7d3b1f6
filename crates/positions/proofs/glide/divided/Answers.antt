-- `positions::glide::divided` meets its contract: c times the floor lies at most c below z, so each number fits. Assumes nothing.
use mathlib.Core.Path.{◌≡◌, sym, ap, subst, ◌∙◌}
use Prim.Native.Nat.{ℕ, ◌^◌, ◌<◌}
use native.Mathlib.Omega.{arith}
use lib.IntN.{ℤ, pos, nat_abs, ◌-ℤ◌, ◌*ℤ◌}
use mir.Syntax.{w64}
use mir.Val.{SFits}
use Rattle.arith.specs.Floor.{floor_div}
use Rattle.arith.proofs.Bits.{reads}
use Rattle.arith.proofs.Linear.{linear}
use Rattle.arith.proofs.Integers.{abs_fits}
use Rattle.arith.proofs.Floor.{floor-≤, floor-<}
use Rattle.positions.specs.Inner.{quotient}
use Rattle.positions.proofs.Glides.{rest_is, rest_high}
use Rattle.positions.proofs.glide.divided.Goals as goal
use Rattle.positions.proofs.glide.divided.Goals.{After-floor_div-floor, Start}

count_low : (s : Start) → s.args.c < 2 ^ 63
count_low s = omega arith

module _ (c : After-floor_div-floor) where
  abbrev z : ℤ
  z = c.before.args.z

  abbrev n : ℕ
  n = c.before.args.c

  abbrev q : ℤ
  q = c.floor_div-floor.result

  floor_fits : SFits w64 q
  floor_fits = record { sfits = c.floor_div-floor.type_inv }

  q_is : q ≡ floor_div z n
  q_is = simp (reads, count_low c.before, c.before.ranges.z) at c.floor_div-floor.ensures

  product-fits : SFits w64 (pos n *ℤ q)
  product-fits =
      let h = c.before.requires.1 in
      subst (λ x. SFits w64 (pos n *ℤ x)) (sym q_is) (simp linear (omega (arith, simp linear at (floor-≤ z h), simp linear at (floor-< z h), simp linear at c.before.requires.0)))

  rest_eq : z -ℤ pos n *ℤ q ≡ pos (quotient z n).rest
  unfolding quotient
  rest_eq = ap (λ x. z -ℤ pos n *ℤ x) q_is ∙ sym (rest_is z c.before.requires.1)

  rest_fits : SFits w64 (z -ℤ pos n *ℤ q)
  rest_fits = rw rest_eq (abs_fits w64 (pos (quotient z n).rest) (omega (arith, rest_high z c.before.requires.1)))

pub floor_div-floor-requires : goal.floor_div-floor-requires
floor_div-floor-requires c = simp (reads, count_low c) (simp linear (omega arith))

pub overflow_mul-rest : goal.overflow_mul-rest
overflow_mul-rest c = simp (reads, count_low c.before, floor_fits c) (product-fits c)

pub overflow_sub-rest : goal.overflow_sub-rest
overflow_sub-rest c = simp (reads, count_low c.before, c.before.ranges.z, floor_fits c, product-fits c) (rest_fits c)

pub overflow_cast-result : goal.overflow_cast-result
overflow_cast-result c =
    simp (reads, count_low c.before, c.before.ranges.z, floor_fits c, product-fits c, rest_fits c)
    (rw (rest_eq c) (tt, omega (arith, rest_high (z c) c.before.requires.1)))

pub returns : goal.returns
unfolding quotient
returns c =
    simp (reads, count_low c.before, c.before.ranges.z, floor_fits c, product-fits c, rest_fits c)
    (ap (λ (x : ℤ). record { floor = x; rest = nat_abs (z c -ℤ pos (n c) *ℤ x) }) (q_is c))
