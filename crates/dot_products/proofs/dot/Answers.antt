-- `dot_products::dot` meets its contract. The loop's invariant: the sum is that of the words below k. Assumes nothing.
use mathlib.Core.Path.{refl, sym}
use Prim.Native.Nat.{◌+◌}
use Rattle.std.proofs.Common.{rules}
use native.Mathlib.Omega.{arith}
use lib.IntN.{ℤ, ◌+ℤ◌, ◌*ℤ◌}
use lib.Signed.{nat_abs-le}
use mir.Syntax.{w16, w32}
use mir.Val.{SFits}
use Rattle.arith.specs.Lists.{at}
use Rattle.arith.specs.Sum.{sum}
use Rattle.arith.proofs.Bits.{reads, to_z_of_z_from}
use Rattle.arith.proofs.Integers.{abs-*-≤, abs_fits}
use Rattle.arith.proofs.Linear.{linear}
use Rattle.dot_products.specs.Sums.{dot_sum, Fits32}
use Rattle.dot_products.proofs.DotSums.{dot_sum_next}
use Rattle.dot_products.proofs.dot.Goals as goal

pub loop-k-init : goal.loop-k-init
unfolding dot_sum sum
loop-k-init g c = refl

fits_32 : {x : ℤ} → Fits32 x → SFits w32 x
fits_32 h = simp linear (omega (arith, simp linear at h))

-- a product of words of 16 bits fits 32
product_fits : (x y : ℤ) → SFits w16 x → SFits w16 y → SFits w32 (x *ℤ y)
product_fits x y f g = abs_fits w32 (x *ℤ y) (omega (arith, abs-*-≤ x y (nat_abs-le x f.sfits) (nat_abs-le y g.sfits)))

pub overflow_mul-sum : goal.overflow_mul-sum
overflow_mul-sum g c =
    let a = c.args in
    let k = c.loop-k.k in
    let x_fits : SFits w16 (at a.words.now k) = search rules in
    let y_fits : SFits w16 (at a.coefficients.now k) = search rules in
    simp (reads, to_z_of_z_from w16, x_fits, y_fits) (product_fits _ _ x_fits y_fits)

pub overflow_add-sum : goal.overflow_add-sum
overflow_add-sum g c =
    let a = c.args in
    let k = c.loop-k.k in
    let x_fits : SFits w16 (at a.words.now k) = search rules in
    let y_fits : SFits w16 (at a.coefficients.now k) = search rules in
    let product = product_fits _ _ x_fits y_fits in
    let next = fits_32 (c.requires.fits (k + 1) (omega arith)) in
    simp (c.loop-k.invariant, reads, to_z_of_z_from w16, x_fits, y_fits, product) (rw (← dot_sum_next a.words.now a.coefficients.now k) next)

pub loop-k-preserved : goal.loop-k-preserved
loop-k-preserved g c =
    let a = c.args in
    let k = c.loop-k.k in
    let x_fits : SFits w16 (at a.words.now k) = search rules in
    let y_fits : SFits w16 (at a.coefficients.now k) = search rules in
    let product = product_fits _ _ x_fits y_fits in
    let more = dot_sum_next a.words.now a.coefficients.now k in
    let next : SFits w32 (dot_sum a.words.now 0 a.coefficients.now 0 k +ℤ at a.words.now k *ℤ at a.coefficients.now k) = rw (← more) (fits_32 (c.requires.fits (k + 1) (omega arith))) in
    simp (c.loop-k.invariant, reads, to_z_of_z_from w16, x_fits, y_fits, product, next) (sym more)
