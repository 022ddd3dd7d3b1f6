-- `positions::glide::rates_of` meets its contract: R as it is, or a glide's place and slope. Assumes nothing.
use mathlib.Core.Path.{◌≡◌, sym, ap, subst, ◌∙◌}
use Prim.Native.Nat.{◌^◌, ◌≤◌, ◌<◌}
use native.Mathlib.Omega.{arith}
use lib.IntN.{ℤ, pos, ◌+ℤ◌, ◌-ℤ◌, ◌*ℤ◌}
use mir.Syntax.{w64}
use mir.Val.{SFits}
use Rattle.arith.proofs.Bits.{reads}
use Rattle.arith.proofs.Linear.{linear}
use Rattle.arith.proofs.Integers.{abs_fits}
use Rattle.control.specs.declared.Control.{Control}
use Rattle.control.specs.declared.Glide.{Glide}
use Rattle.positions.specs.declared.glide.Quotient.{Quotient}
use Rattle.control.specs.Moves.{glide_rate}
use Rattle.positions.specs.Inner.{GlideFits, ControlFits, RatesOf, quotient, glide_sum}
use Rattle.positions.proofs.Glides.{rest_high, some, way_high, rate-at, rate_high, still_rates, glide_rates}
use Rattle.positions.proofs.glide.rates_of.Goals as goal

-- without a glide
module _ {c : Control} (f : ControlFits c) where
  rate_low : c.rate < 2 ^ 63
  rate_low = omega (arith, f.rate_high)

  rate_fits : SFits w64 (pos (2 ^ 23) *ℤ pos c.rate)
  rate_fits = simp linear (omega (arith, f.rate_high))

-- of a glide under way
module _ {g : Glide} (f : GlideFits g) where
  start_low : g.start < 2 ^ 63
  start_low = omega (arith, f.start_high)

  target_low : g.target < 2 ^ 63
  target_low = omega (arith, f.target_high)

  abbrev way : ℤ
  way = pos g.target -ℤ pos g.start

  way_fits : SFits w64 way
  way_fits = abs_fits w64 way (omega (arith, way_high g f))

  module _ {p : Quotient} (is : p ≡ quotient (glide_sum g g.done) g.count) where
    rest_small : p.rest < g.count
    rest_small = subst (λ q. q.rest < g.count) (sym is) (rest_high (glide_sum g g.done) (some g f))

    rest_low : p.rest < 2 ^ 63
    rest_low = omega (arith, rest_small, f.count_high)

    floor_is : p.floor ≡ pos (glide_rate g g.done)
    floor_is = ap (λ (q : Quotient). q.floor) is ∙ rate-at g f g.done (omega (arith, f.done_high))

    rate_small : glide_rate g g.done ≤ 2 ^ 32
    rate_small = rate_high g f g.done (omega (arith, f.done_high))

    floor_fits : SFits w64 p.floor
    floor_fits = subst (SFits w64) (sym floor_is) (simp linear (omega (arith, rate_small)))

    product-fits : SFits w64 (pos (2 ^ 23) *ℤ p.floor)
    product-fits = subst (λ z. SFits w64 (pos (2 ^ 23) *ℤ z)) (sym floor_is) (simp linear (omega (arith, rate_small)))

pub overflow_mul-result : goal.overflow_mul-result
overflow_mul-result c = simp (reads, rate_low c.requires) (rate_fits c.requires)

pub invariant_of-result : goal.invariant_of-result
invariant_of-result c =
    let s = c.requires in
    record { fit = s; along = simp (reads, rate_low s, rate_fits s) (still_rates c.args.c c.if-count-eq0.true s.rate_high) }

pub rate_quotient-place-requires : goal.rate_quotient-place-requires
rate_quotient-place-requires c = c.requires.glide_fits c.if-count-eq0.false

pub scaled-part-requires : goal.scaled-part-requires
scaled-part-requires c =
    let f = c.requires.glide_fits c.if-count-eq0.false in
    let is = c.rate_quotient-place.ensures in
    simp (reads, rest_low f is) (omega (arith, rest_small f is, f.count_high), some c.args.c.glide f, f.count_high)

pub overflow_cast-g : goal.overflow_cast-g
overflow_cast-g c = let l = target_low (c.requires.glide_fits c.if-count-eq0.false) in simp linear (omega arith)

pub overflow_cast-g-2 : goal.overflow_cast-g-2
overflow_cast-g-2 c = let l = start_low (c.requires.glide_fits c.if-count-eq0.false) in simp linear (omega arith)

pub overflow_sub-g : goal.overflow_sub-g
overflow_sub-g c = let f = c.requires.glide_fits c.if-count-eq0.false in simp (reads, start_low f, target_low f) (way_fits f)

pub scaled-slope-requires : goal.scaled-slope-requires
scaled-slope-requires c =
    let f = c.requires.glide_fits c.if-count-eq0.false in
    let g = c.args.c.glide in
    simp (reads, start_low f, target_low f, way_fits f) (way_high g f, some g f, f.count_high)

pub overflow_mul-result-2 : goal.overflow_mul-result-2
overflow_mul-result-2 c =
    let f = c.requires.glide_fits c.if-count-eq0.false in
    let is = c.rate_quotient-place.ensures in
    simp (reads, floor_fits f is) (product-fits f is)

pub overflow_add-result : goal.overflow_add-result
overflow_add-result c =
    let f = c.requires.glide_fits c.if-count-eq0.false in
    let is = c.rate_quotient-place.ensures in
    let u = c.scaled-part.result in
    let S = c.scaled-slope.result in
    let part = simp (reads, rest_low f is) at c.scaled-part.ensures in
    let slope = simp (reads, start_low f, target_low f, way_fits f) at c.scaled-slope.ensures in
    let rates = glide_rates c.args.c c.if-count-eq0.false f is u S part.0 part.1 slope.0 slope.1 in
    let part_fits : SFits w64 u = record { sfits = c.scaled-part.type_inv } in
    let start : SFits w64 (pos (2 ^ 23) *ℤ c.rate_quotient-place.result.floor +ℤ u) = abs_fits w64 (pos (2 ^ 23) *ℤ c.rate_quotient-place.result.floor +ℤ u) (omega (arith, rates.start_size)) in
    simp (reads, floor_fits f is, product-fits f is, part_fits) start

pub invariant_of-result-2 : goal.invariant_of-result-2
invariant_of-result-2 c =
    let f = c.requires.glide_fits c.if-count-eq0.false in
    let is = c.rate_quotient-place.ensures in
    let u = c.scaled-part.result in
    let S = c.scaled-slope.result in
    let part = simp (reads, rest_low f is) at c.scaled-part.ensures in
    let slope = simp (reads, start_low f, target_low f, way_fits f) at c.scaled-slope.ensures in
    let rates = glide_rates c.args.c c.if-count-eq0.false f is u S part.0 part.1 slope.0 slope.1 in
    let part_fits : SFits w64 u = record { sfits = c.scaled-part.type_inv } in
    let slope_fits : SFits w64 S = record { sfits = c.scaled-slope.type_inv } in
    let start : SFits w64 (pos (2 ^ 23) *ℤ c.rate_quotient-place.result.floor +ℤ u) = abs_fits w64 (pos (2 ^ 23) *ℤ c.rate_quotient-place.result.floor +ℤ u) (omega (arith, rates.start_size)) in
    record { fit = c.requires; along = simp (reads, floor_fits f is, product-fits f is, part_fits, slope_fits, start) rates }
