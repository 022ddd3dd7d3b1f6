-- `arith::positive_part` meets its contract: a shift that leaves the sign bit alone is −1 or 0. Assumes nothing.
use mathlib.Core.Path.{◌≡◌, refl, subst, sym, ap}
use mathlib.Core.Bool.{true, false, cond}
use Prim.Native.Nat.{◌^◌}
use native.Mathlib.Nat.{div-eq_of_lt}
use native.Mathlib.Omega.{arith}
use lib.IntN.{ℤ, pos, negsuc, ◌-ℤ◌, ◌*ℤ◌}
use lib.Signed.{lt_z, shr_z}
use mir.Syntax.{w32}
use mir.Val.{SFits}
use Rattle.arith.proofs.Bits.{reads}
use Rattle.arith.proofs.Linear.{linear}
use Rattle.arith.proofs.positive_part.Goals as goal
use Rattle.arith.proofs.positive_part.Goals.{Start}

-- what holds of −1 where x is below 0, and of 0 elsewhere, holds of the shift
sign_ind : (x : ℤ) → SFits w32 x → (P : ℤ → Type 0) → (lt_z x (pos 0) ≡ true → P (negsuc 0)) → (lt_z x (pos 0) ≡ false → P (pos 0)) → P (shr_z x (2 ^ 31))
sign_ind (pos n) f P below above = subst P (sym (ap pos (div-eq_of_lt f.sfits))) (above (simp linear (omega arith)))
sign_ind (negsuc n) f P below above = subst P (sym (ap negsuc (div-eq_of_lt f.sfits))) (below refl)

module _ (c : Start) where
  abbrev x : ℤ
  x = c.args.x

  abbrev sign : ℤ
  sign = shr_z x (2 ^ 31)

  sign_fits : SFits w32 sign
  sign_fits = sign_ind x c.ranges.x (λ s. SFits w32 s) (λ e. simp linear (omega arith)) (λ e. simp linear (omega arith))

  factor_fits : SFits w32 (pos 0 -ℤ sign)
  factor_fits = sign_ind x c.ranges.x (λ s. SFits w32 (pos 0 -ℤ s)) (λ e. simp linear (omega arith)) (λ e. simp linear (omega arith))

  product-fits : SFits w32 (x *ℤ (pos 0 -ℤ sign))
  product-fits =
      sign_ind x c.ranges.x (λ s. SFits w32 (x *ℤ (pos 0 -ℤ s)))
      (λ e. simp linear (omega (arith, simp linear at c.ranges.x))) (λ e. simp linear (omega arith))

  result-is : x -ℤ x *ℤ (pos 0 -ℤ sign) ≡ cond (lt_z x (pos 0)) (pos 0) x
  result-is =
      sign_ind x c.ranges.x (λ s. x -ℤ x *ℤ (pos 0 -ℤ s) ≡ cond (lt_z x (pos 0)) (pos 0) x)
      (λ e. rw e (simp linear (omega arith))) (λ e. rw e (simp linear (omega arith)))

  result_fits : SFits w32 (x -ℤ x *ℤ (pos 0 -ℤ sign))
  result_fits =
      sign_ind x c.ranges.x (λ s. SFits w32 (x -ℤ x *ℤ (pos 0 -ℤ s)))
      (λ e. simp linear (omega arith)) (λ e. simp linear (omega (arith, simp linear at c.ranges.x)))

pub returns : goal.returns
returns c = simp (reads, c.ranges.x, sign_fits c, factor_fits c, product-fits c, result_fits c) (result-is c)
