-- `book::columns::test_eight` meets its contract. Assumes nothing.
use Rattle.std.proofs.Common.{◌≡◌, ℕ, ◌+◌, ◌-◌, ◌*◌, ◌<◌, ◌≤◌, List, length, ℤ, mul-le-mul_right, arith}
use native.Mathlib.Decide.{ℕ_discrete}
use Rattle.arith.specs.Lists.{at, part}
use Rattle.arith.proofs.Integers.{≤ℤ-trans}
use Rattle.arith.proofs.Lists.{part_length, at_part}
use Rattle.book.proofs.ColumnBounds.{bounds_more, passed_more, raised_more}
use Rattle.book.proofs.columns.test_eight.Goals as goal

-- the eight words from place a on
module _ (xs : List ℤ) (a : ℕ) (room : a + 8 ≤ length xs) where
  many : a + 8 - a ≡ 8
  many = omega arith

  eight_length : length (part xs a (a + 8 - a)) ≡ 8
  eight_length = rw many (part_length xs a 8 room)

  at_eight : (k : ℕ) → k < 8 → at (part xs a (a + 8 - a)) k ≡ at xs (a + k)
  at_eight k h = rw many (at_part xs a 8 k h)

pub loop-q-preserved : goal.loop-q-preserved
loop-q-preserved c =
    let l = c.loop-q in
    let row = 4 * c.args.taps in
    let place = l.q * row + c.args.column in
    let impulses = c.args.impulses.now in
    let differences = c.args.differences.now in
    let inside : l.q * row + row ≤ c.args.rows * row = omega (arith, mul-le-mul_right row c.loop-q-test.true) in
    let here : place + 8 ≤ length impulses = omega (arith, inside) in
    let there : place + c.args.taps + 8 ≤ length impulses = omega (arith, inside) in
    let to : place + 8 ≤ length differences = omega (arith, inside) in
    let r = c.raise.ensures in
    let m = c.mark.ensures in (
      raised_more l.invariant.0 (raised_more r.raised m.raised),
      λ p k n o.
          elim (ℕ_discrete p l.q) [
            | yes e ↦
                let word = at_eight impulses place here k o in
                let bounded = rw word at (r.bounded k (omega (arith, eight_length impulses place here))) in
                let tested = rw (at_eight differences place to k o, at_eight impulses (place + c.args.taps) there k o, word) at (m.tested k (omega (arith, eight_length differences place to))) in
                rw e (record { bounded = bounds_more (m.raised.rise k) bounded; tested = tested })
            | no d ↦ passed_more (≤ℤ-trans (r.raised.rise k) (m.raised.rise k)) (l.invariant.1 p k (omega arith) o)
          ],
    )
