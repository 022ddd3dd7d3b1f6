-- `positions::glide::scaled` meets its contract: the floor of (2^23 × z + c − 1) / c. Assumes nothing.
use mathlib.Core.Path.{◌≡◌, sym, subst}
use Prim.Native.Nat.{ℕ, ◌^◌, ◌<◌}
use native.Mathlib.Omega.{arith}
use lib.IntN.{ℤ, pos, ◌+ℤ◌, ◌-ℤ◌, ◌*ℤ◌}
use lib.Signed.{◌≤ℤ◌, ◌<ℤ◌}
use mir.Syntax.{w64}
use mir.Val.{SFits}
use Rattle.arith.specs.Floor.{floor_div}
use Rattle.arith.proofs.Bits.{reads}
use Rattle.arith.proofs.Linear.{linear}
use Rattle.arith.proofs.Floor.{floor-≤, floor-<}
use Rattle.positions.proofs.glide.scaled.Goals as goal
use Rattle.positions.proofs.glide.scaled.Goals.{Start}

module _ (s : Start) where
  abbrev z : ℤ
  z = s.args.z

  abbrev n : ℕ
  n = s.args.c

  count_low : n < 2 ^ 63
  count_low = omega arith

  product-fits : SFits w64 (pos (2 ^ 23) *ℤ z)
  product-fits = simp linear (omega (arith, simp linear at s.requires.0))

  sum_fits : SFits w64 (pos (2 ^ 23) *ℤ z +ℤ pos n)
  sum_fits = simp linear (omega (arith, simp linear at s.requires.0))

  less-fits : SFits w64 (pos (2 ^ 23) *ℤ z +ℤ pos n -ℤ pos 1)
  less-fits = simp linear (omega (arith, simp linear at s.requires.0))

pub overflow_mul-z : goal.overflow_mul-z
overflow_mul-z c = simp (reads, c.ranges.z) (product-fits c)

pub overflow_add-z : goal.overflow_add-z
overflow_add-z c = simp (reads, c.ranges.z, count_low c, product-fits c) (sum_fits c)

pub overflow_sub-z : goal.overflow_sub-z
overflow_sub-z c = simp (reads, c.ranges.z, count_low c, product-fits c, sum_fits c) (less-fits c)

pub floor_div-requires : goal.floor_div-requires
floor_div-requires c = simp (reads, count_low c) (simp linear (omega arith))

pub returns : goal.returns
returns c =
    let s = c.before in
    let x = pos (2 ^ 23) *ℤ z s +ℤ pos (n s) -ℤ pos 1 in
    let e : c.floor_div.result ≡ floor_div x (n s) = simp (reads, s.ranges.z, count_low s, product-fits s, sum_fits s, less-fits s) at c.floor_div.ensures in
    let l = simp linear at (floor-≤ x s.requires.1) in
    let h = simp linear at (floor-< x s.requires.1) in
    let f : SFits w64 c.floor_div.result = record { sfits = c.floor_div.type_inv } in
    simp (reads, f) (subst (λ q. ((pos (2 ^ 23) *ℤ z s) ≤ℤ (pos (n s) *ℤ q)) × ((pos (n s) *ℤ q) <ℤ (pos (2 ^ 23) *ℤ z s +ℤ pos (n s)))) (sym e) (simp linear (omega arith)))
