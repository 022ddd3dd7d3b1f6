-- `book::columns::impulses_settled` meets its contract. Assumes nothing.
use Rattle.std.proofs.Common.{◌≡◌, ℕ, ◌+◌, ◌-◌, ◌*◌, ◌/◌, ◌%◌, ◌<◌, ◌≤◌, true, leb, List, length, ℤ, pos, ◌-ℤ◌, ◌≤ℤ◌, mul-le-mul_right, length-take, length-drop, refl, ap, ◌∙◌, arith, leb-true}
use native.Mathlib.Decide.{dec_lt, ℕ_discrete}
use lib.Signed.{≤ℤ_refl}
use Rattle.arith.proofs.Integers.{≤ℤ-trans}
use Rattle.arith.specs.Lists.{at, part}
use Rattle.arith.proofs.Lists.{at_part}
use Rattle.arith.proofs.Parts.{zeros_every}
use Rattle.book.specs.declared.places.Parts.{Parts}
use Rattle.book.specs.Columns.{Bounds, Passed, Raised, tap_bound}
use Rattle.book.proofs.ColumnBounds.{passed_more, section_in, section_raised, impulses_settled, differences_settled}
use Rattle.arith.specs.Sum.{total}
use Rattle.arith.specs.Tests.{eq_z, every}
use Rattle.book.specs.Book.{sizes_of}
use Rattle.book.specs.Check.{words_in_range, phase_sum}
use Rattle.book.specs.Inner.{impulses, differences}
use Rattle.book.proofs.Sections.{impulse_at, difference_at, first_words}
use Rattle.book.proofs.Whole.{array, room, parts_bounded}
use Rattle.book.proofs.columns.impulses_settled.Goals as goal

-- the array of impulses is rows of four phases
module _ (p : Parts) (fours : p.sizes.phases % 4 ≡ 0) where
  abbrev rows : ℕ
  rows = p.sizes.phases / 4 - 1

  phases_are : (p.sizes.phases ≡ (rows + 1) * 4) × (1 ≤ p.sizes.phases / 4)
  phases_are = let f = parts_bounded p in omega (arith, f.phases_low)

  rows_are : (rows * (4 * p.sizes.taps) + 4 * p.sizes.taps ≡ array p) × (p.sizes.taps % 2 ≡ 0) × (p.sizes.taps ≤ 24)
  rows_are = let f = parts_bounded p in (omega (arith, ap (λ m. m * p.sizes.taps) phases_are.0), f.taps-even, f.taps_high)

-- the same places, summed in another order
at_places : (row a taps k : ℕ) {x : ℤ} (is ds : List ℤ) → Passed x (at ds (row + a + k)) (at is (row + a + taps + k)) (at is (row + a + k)) → Passed x (at ds (row + (a + k))) (at is (row + taps + (a + k))) (at is (row + (a + k)))
at_places row a taps k is ds p =
    let e : row + a + k ≡ row + (a + k) = omega arith in
    let f : row + a + taps + k ≡ row + taps + (a + k) = omega arith in
    rw (← e, ← f) p

pub overflow_sub-rows : goal.overflow_sub-rows
overflow_sub-rows c = (phases_are c.args.book.now c.if-book-ne0.false).1

pub loop-eight-init : goal.loop-eight-init
loop-eight-init c = record { not_negative = zeros_every (λ x. pos 0 ≤ℤ x) (≤ℤ_refl (pos 0)) 96; passed = λ q k h l. absurd (omega arith) }

-- the eight places of a turn
eight_inside : (eight taps : ℕ) → eight < taps / 2 → taps % 2 ≡ 0 → taps ≤ 24 → (8 * eight + 8 ≤ 4 * taps) × (8 * eight + 8 ≤ 96)
eight_inside eight taps h l m = omega arith

pub slice_bounds-bounds-end : goal.slice_bounds-bounds-end
slice_bounds-bounds-end c = omega (arith, rows_are c.args.book.now c.if-book-ne0.false)

pub test_eight-requires-clause-room : goal.test_eight-requires-clause-room
test_eight-requires-clause-room c = omega (arith, rows_are c.args.book.now c.if-book-ne0.false, c.impulses-impulses.ensures.long, c.differences-differences.ensures.long)

pub loop-eight-preserved : goal.loop-eight-preserved
loop-eight-preserved c =
    let l = c.loop-eight in
    let p = c.args.book.now in
    let a = 8 * l.eight in
    let count : a + 8 - a ≡ 8 = omega arith in
    let r = rows_are p c.if-book-ne0.false in
    let e = c.test_eight.ensures in
    let ys = c.test_eight.new.bounds in
    let room : a + 8 ≤ length l.bounds = omega (arith, r, c.loop-eight-test.array_long) in
    let raised = rw count at e.raised in
    let up = section_raised l.bounds ys a 8 room raised in
    rw count (record {
      not_negative = λ k. ≤ℤ-trans (l.invariant.not_negative k) (up.rise k);
      passed = λ q k h m.
          elim (dec_lt k a) [
            | yes n ↦ passed_more (up.rise k) (l.invariant.passed q k h n)
            | no n ↦
                let i : a + (k - a) ≡ k = omega arith in
                let small : k - a < 8 = omega arith in
                rw (← i) (rw (section_in l.bounds ys a 8 room raised (k - a) small) (at_places (q * (4 * p.sizes.taps)) a p.sizes.taps (k - a) c.impulses-impulses.result.now c.differences-differences.result.now (e.passed q (k - a) h small)))
          ];
    })

pub slice_bounds-raise-count : goal.slice_bounds-raise-count
slice_bounds-raise-count c = omega (arith, rows_are c.args.book.now c.if-book-ne0.false, c.impulses-impulses.ensures.long)

pub slice_bounds-raise-start : goal.slice_bounds-raise-start
slice_bounds-raise-start c = omega (arith, rows_are c.args.book.now c.if-book-ne0.false, c.impulses-impulses.ensures.long)

pub raise-requires : goal.raise-requires
raise-requires c = let r = rows_are c.args.book.now c.if-book-ne0.false in simp (length-take, length-drop) (omega (arith, r, c.impulses-impulses.ensures.long, c.loop-eight-test.array_long))

pub sum_bound-requires : goal.sum_bound-requires
sum_bound-requires c =
    let r = rows_are c.args.book.now c.if-book-ne0.false in
    (omega (arith, r, c.raise.ensures.raised.words, c.loop-eight-test.array_long), r.2, λ k. ≤ℤ-trans (c.loop-eight.invariant.not_negative k) (c.raise.ensures.raised.rise k))

-- the last row, as the code takes it
last_words : (is after : List ℤ) (a row : ℕ) → length is ≡ a + row → ((k : ℕ) → k < length (part is a (length is - a)) → Bounds (at after k) (at (part is a (length is - a)) k))
    → (k : ℕ) → k < row → Bounds (at after k) (at is (a + k))
last_words is after a row e f k h =
    let n : length (part is a (length is - a)) ≡ row = simp (length-take, length-drop) (omega arith) in
    rw (at_part is a (length is - a) k (omega arith)) at (f k (omega (arith, n)))

-- the bounds at the end: they tell of the words of all rows but the last, and bound those of all rows
module _ (p : Parts) (fours : p.sizes.phases % 4 ≡ 0) (is ds bounds after : List ℤ) (impulses_are : is ≡ impulses p.words.now) (differences_are : ds ≡ differences p.words.now)
    (raised : Raised bounds after)
    (told : (q k : ℕ) → q < rows p fours → k < 4 * p.sizes.taps → Passed (at bounds k) (at ds (q * (4 * p.sizes.taps) + k)) (at is (q * (4 * p.sizes.taps) + p.sizes.taps + k)) (at is (q * (4 * p.sizes.taps) + k)))
    (last : (k : ℕ) → k < 4 * p.sizes.taps → Bounds (at after k) (at is (rows p fours * (4 * p.sizes.taps) + k)))
    (low : total p.sizes.taps (tap_bound after p.sizes.taps) ≤ 65536) where
  abbrev b : List ℤ
  b = p.words.now

  abbrev N : ℕ
  N = p.sizes.taps

  abbrev row : ℕ
  row = 4 * N

  row_inside : (q k : ℕ) → q < rows p fours → k < row → q * row + N + k < array p
  row_inside q k h l = let r = (rows_are p fours).0 in let m : q * row + row ≤ rows p fours * row = omega (arith, mul-le-mul_right row h) in omega (arith, r, m)

  tests_all : (q k : ℕ) → q + 1 < rows p fours + 1 → k < row → Passed (at after k) (at b (5 + q * row + array p + k)) (at b (5 + q * row + N + k)) (at b (5 + q * row + k))
  tests_all q k h l =
      let less : q < rows p fours = omega arith in
      let r = row_inside q k less l in
      let t = passed_more (raised.rise k) (told q k less l) in
      let d = difference_at p impulses_are differences_are (q * row + k) (5 + q * row + array p + k) (omega (arith, r)) (omega arith) in
      let n = impulse_at p impulses_are (q * row + N + k) (5 + q * row + N + k) (omega (arith, r)) (omega arith) in
      let f = impulse_at p impulses_are (q * row + k) (5 + q * row + k) (omega (arith, r)) (omega arith) in
      rw (d, n, f) at t

  bounds_all : (q k : ℕ) → q < rows p fours + 1 → k < row → Bounds (at after k) (at b (5 + q * row + k))
  bounds_all q k h l =
      elim (ℕ_discrete q (rows p fours)) [
        | yes e ↦
            let w = impulse_at p impulses_are (rows p fours * row + k) (5 + rows p fours * row + k) (omega (arith, (rows_are p fours).0)) (omega arith) in
            rw e (rw w at (last k l))
        | no e ↦ (tests_all q k (omega arith) l).bounded
      ]

  phases_read : p.sizes.phases ≡ (sizes_of b).phases
  phases_read = ap (λ s. s.phases) p.read

  taps_read : N ≡ (sizes_of b).taps
  taps_read = ap (λ s. s.taps) p.read

  ranges : (words_in_range b 5 (array p) ≡ true) × (every p.sizes.phases (λ q. leb (phase_sum b q) 65536) ≡ true)
  ranges = impulses_settled b after (rows p fours + 1) p.sizes.phases N phases_read taps_read (phases_are p fours).0 bounds_all low

  settled_right : every (array p - 4 * N) (λ i. eq_z (at (differences b) i) (at (impulses b) (N + i) -ℤ at (impulses b) i)) ≡ true
  settled_right =
      let d = differences_settled b after (rows p fours + 1) p.sizes.phases N phases_read taps_read (phases_are p fours).0 bounds_all low tests_all (omega arith) in
      first_words p refl refl N (array p - 4 * N) (omega (arith, room p)) ∙ d.1

low_is : {n : ℕ} {m : ℕ} → n ≡ m → leb n 65536 ≡ true → m ≤ 65536
low_is {n} e h = rw e at (leb-true n 65536 h)

pub returns-clause-ranges : goal.returns-clause-ranges
returns-clause-ranges c h =
    let p = c.args.book.now in
    let r = rows_are p c.if-book-ne0.false in
    let is = c.impulses-impulses in
    let l = c.loop-eight in
    let last = last_words is.result.now c.raise.new.bounds (rows p c.if-book-ne0.false * (4 * p.sizes.taps)) (4 * p.sizes.taps) (omega (arith, r, is.ensures.long)) c.raise.ensures.bounded in
    ranges p c.if-book-ne0.false is.result.now c.differences-differences.result.now l.bounds c.raise.new.bounds is.ensures.words c.differences-differences.ensures.words c.raise.ensures.raised
    (λ q k m n. l.invariant.passed q k m (omega (arith, r))) last (low_is c.sum_bound.ensures h)

pub returns-clause-right : goal.returns-clause-right
returns-clause-right c h =
    let p = c.args.book.now in
    let r = rows_are p c.if-book-ne0.false in
    let is = c.impulses-impulses in
    let l = c.loop-eight in
    let last = last_words is.result.now c.raise.new.bounds (rows p c.if-book-ne0.false * (4 * p.sizes.taps)) (4 * p.sizes.taps) (omega (arith, r, is.ensures.long)) c.raise.ensures.bounded in
    settled_right p c.if-book-ne0.false is.result.now c.differences-differences.result.now l.bounds c.raise.new.bounds is.ensures.words c.differences-differences.ensures.words c.raise.ensures.raised
    (λ q k m n. l.invariant.passed q k m (omega (arith, r))) last (low_is c.sum_bound.ensures h)
