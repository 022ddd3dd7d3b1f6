-- `decimation::tap_added` meets its contract: the points, their sum, its product with the tap and the result fit. Assumes nothing.
use Prim.Native.Nat.{ℕ, ◌+◌, ◌-◌, ◌^◌, ◌≤◌}
use native.Mathlib.Omega.{arith}
use lib.IntN.{ℤ, nat_abs, ◌+ℤ◌, ◌*ℤ◌}
use mir.Syntax.{w64}
use mir.Val.{SFits}
use Rattle.arith.specs.Lists.{at}
use Rattle.arith.proofs.Bits.{reads}
use Rattle.arith.proofs.Integers.{abs_triangle, abs-*-≤, abs_fits}
use Rattle.decimation.proofs.tap_added.Goals as goal
use Rattle.decimation.proofs.tap_added.Goals.{Start}

module _ (s : Start) where
  abbrev before : ℤ
  before = at s.args.line.points.now (s.args.centre - s.args.k)

  abbrev after : ℤ
  after = at s.args.line.points.now (s.args.centre + s.args.k)

  point_fits : (i : ℕ) → SFits w64 (at s.args.line.points.now i)
  point_fits i = abs_fits w64 (at s.args.line.points.now i) (omega (arith, s.args.line.small i))

  pair_small : nat_abs (before +ℤ after) ≤ 2 ^ 30
  pair_small = omega (arith, abs_triangle before after, s.args.line.small (s.args.centre - s.args.k), s.args.line.small (s.args.centre + s.args.k))

  pair_fits : SFits w64 (before +ℤ after)
  pair_fits = abs_fits w64 (before +ℤ after) (omega (arith, pair_small))

  abbrev product : ℤ
  product = s.args.tap *ℤ (before +ℤ after)

  product_small : nat_abs product ≤ 2 ^ 45
  product_small = abs-*-≤ s.args.tap (before +ℤ after) s.requires.small.1 pair_small

  product-fits : SFits w64 product
  product-fits = abs_fits w64 product (omega (arith, product_small))

  result_fits : SFits w64 (s.args.sum +ℤ product)
  result_fits = abs_fits w64 (s.args.sum +ℤ product) (omega (arith, abs_triangle s.args.sum product, product_small))

pub overflow_add-result-2 : goal.overflow_add-result-2
overflow_add-result-2 c =
    let s = c.before.before in
    simp (reads, point_fits s (s.args.centre - s.args.k), point_fits s (s.args.centre + s.args.k)) (pair_fits s)

pub overflow_mul-result : goal.overflow_mul-result
overflow_mul-result c =
    let s = c.before.before in
    simp (reads, point_fits s (s.args.centre - s.args.k), point_fits s (s.args.centre + s.args.k), s.ranges.tap, pair_fits s) (product-fits s)

pub overflow_add-result-3 : goal.overflow_add-result-3
overflow_add-result-3 c =
    let s = c.before.before in
    simp (reads, point_fits s (s.args.centre - s.args.k), point_fits s (s.args.centre + s.args.k), s.ranges.tap, s.ranges.sum, pair_fits s, product-fits s) (result_fits s)

pub returns : goal.returns
returns c =
    let s = c.before.before in
    simp (reads, point_fits s (s.args.centre - s.args.k), point_fits s (s.args.centre + s.args.k), s.ranges.tap, s.ranges.sum, pair_fits s, product-fits s, result_fits s)
