-- `decimation::Taps::sums` meets its contract. Assumes nothing.
use mathlib.Core.Path.{◌≡◌, ap, subst, ◌∙◌}
use Prim.Native.Nat.{ℕ, ◌+◌, ◌-◌, ◌*◌, ◌≤◌, ◌<◌}
use native.Mathlib.Nat.{mul-suc}
use native.Mathlib.Numerals.{add-one}
use native.Mathlib.Omega.{arith}
use lib.ListN.{length}
use Rattle.std.specs.Int.{div_ceil}
use Rattle.book.proofs.Around.{around}
use Rattle.decimation.specs.declared.Taps.{Taps}
use Rattle.decimation.proofs.Lanes.{passed_in, passed_all}
use Rattle.decimation.proofs.Lines.{Place, fits, first_place, next_place, tap_read_small, first-is, around_small, added_is, sum_all}
use Rattle.decimation.proofs.Taps.sums.Goals as goal

pub bounds-taps-0 : goal.bounds-taps-0
bounds-taps-0 g c = (fits c.args.self c.args.line.points.now c.args.line.small).some

pub first_sums-sums-requires : goal.first_sums-sums-requires
first_sums-sums-requires g c =
    let f = fits c.args.self c.args.line.points.now c.args.line.small in
    (omega arith, ((omega (arith, f.some), omega (arith, f.some)), tap_read_small f 0 f.some))

pub loop-i-init : goal.loop-i-init
loop-i-init g c =
    let t = c.args.self in
    let f = fits t c.args.line.points.now c.args.line.small in
    let e : 1 ≡ 1 + t.step * 0 = omega arith in record {
      place = subst (Place t.taps.now t.step) e (first_place t.taps.now t.step);
      made = λ j h. first-is f (c.args.centre - 2 * j) (c.first_sums-sums.ensures j h) ∙ ap (around t.taps.now c.args.line.points.now (c.args.centre - 2 * j)) e;
    }

-- a tap that is passed is one of them
inside : (t : Taps) (i : ℕ) → i < t.passed → t.step * i < length t.taps.now - 1
inside t i h = passed_in (length t.taps.now - 1) t.step t.stepped.low t.stepped.high i (rw t.counted at h)

pub overflow_mul-k : goal.overflow_mul-k
overflow_mul-k g c = omega (arith, inside c.args.self c.loop-i.i c.loop-i-test.true)

pub overflow_add-k : goal.overflow_add-k
overflow_add-k g c = omega (arith, inside c.args.self c.loop-i.i c.loop-i-test.true)

pub bounds-taps-k : goal.bounds-taps-k
bounds-taps-k g c = omega (arith, inside c.args.self c.loop-i.i c.loop-i-test.true)

pub add_tap-requires : goal.add_tap-requires
add_tap-requires g c =
    let t = c.args.self in
    let f = fits t c.args.line.points.now c.args.line.small in
    let v = c.loop-i.invariant in
    let k : ℕ = 1 + t.step * c.loop-i.i in
    let l : k < length t.taps.now = omega (arith, inside t c.loop-i.i c.loop-i-test.true) in (
      omega arith,
      ((omega arith, omega arith), (tap_read_small f k l, λ j h. rw (v.made j h) (around_small f (c.args.centre - 2 * j) v.place))),
    )

pub loop-i-preserved : goal.loop-i-preserved
loop-i-preserved g c =
    let t = c.args.self in
    let f = fits t c.args.line.points.now c.args.line.small in
    let v = c.loop-i.invariant in
    let i = c.loop-i.i in
    let k : ℕ = 1 + t.step * i in
    let l : k < length t.taps.now = omega (arith, inside t i c.loop-i-test.true) in
    let n : t.step * (i + 1) ≡ t.step * i + t.step = ap (λ m. t.step * m) (add-one i) ∙ mul-suc t.step i in
    let e : k + t.step ≡ 1 + t.step * (i + 1) = omega (arith, n) in record {
      place = subst (Place t.taps.now t.step) e (next_place f.stepped v.place l);
      made = λ j h. added_is f (c.args.centre - 2 * j) v.place (v.made j h) l (omega arith) (c.add_tap.ensures j h) ∙ ap (around t.taps.now c.args.line.points.now (c.args.centre - 2 * j)) e;
    }

pub returns : goal.returns
returns g c =
    let t = c.args.self in
    let f = fits t c.args.line.points.now c.args.line.small in
    let v = c.loop-i.invariant in
    let e : c.loop-i.i ≡ div_ceil (length t.taps.now - 1) t.step = omega (arith, t.counted) in
    let all : length t.taps.now - 1 ≤ t.step * c.loop-i.i = rw e (passed_all (length t.taps.now - 1) t.step t.stepped.low t.stepped.high) in
    λ j h. sum_all f (c.args.centre - 2 * j) v.place (v.made j h) (omega (arith, f.some, all))
