-- `rows::stage_rows` meets its contract: the rows of the phases, and behind them phase 0 from its second impulse on. Assumes nothing.
use mathlib.Core.Path.{◌≡◌, refl, ap, ◌∙◌}
use mathlib.Core.Bool.{Bool, true}
use mathlib.Core.List.{List, ◌++◌}
use Prim.Native.Nat.{ℕ, suc, ◌+◌, ◌-◌, ◌*◌, ◌%◌, ◌≤◌, ◌<◌}
use native.Mathlib.Omega.{arith}
use lib.IntN.{ℤ, pos, negsuc}
use lib.ListN.{length, take, drop}
use Rattle.arith.specs.Limit.{limit}
use Rattle.arith.specs.Lists.{at, part}
use Rattle.arith.proofs.Lists.{part_length, at_part}
use Rattle.book.specs.Book.{sizes_of}
use Rattle.book.specs.Check.{book_number}
use Rattle.book.proofs.Accepted.{Accepted, accepted, sizes_bounded, sizes_room}
use Rattle.book.proofs.Bounds.{array_low}
use Rattle.rows.specs.Rows.{row_width, narrowed, Positive, PutAt, PhasesOf, RowsOf}
use Rattle.rows.proofs.ImpulseRows.{row_width_between, taps_fit, put_lent, lent_length, put_front, Whole, rows_whole}
use Rattle.rows.proofs.stage_rows.Goals as goal

-- a book's sizes
module _ (b : List ℤ) (number : book_number b ≡ 0) {phases taps : ℕ} (sizes : (phases ≡ (sizes_of b).phases) × (taps ≡ (sizes_of b).taps)) where
  valid : Accepted b
  valid = accepted b number

  taps_bounds : (2 ≤ taps) × (taps ≤ 24) × (taps % 2 ≡ 0)
  taps_bounds = let f = sizes_bounded b valid in rw sizes.1 (f.taps_low, f.taps_high, f.taps-even)

  phases_few : phases ≤ 128
  phases_few = rw sizes.0 (sizes_bounded b valid).phases_high

  -- the book holds the impulses of all phases, and of one
  book_room : 5 + phases * taps ≤ length b
  book_room = rw (sizes.0, sizes.1) (omega (arith, (sizes_room b valid (sizes_of b) refl).0))

  phase_room : 5 + taps ≤ length b
  phase_room = rw sizes.1 (omega (arith, (sizes_room b valid (sizes_of b) refl).0, array_low (sizes_bounded b valid)))

  wide : taps ≤ row_width taps
  wide = taps_fit taps taps_bounds.1

  -- the rows of the phases, and the words of the last row put behind them
  module _ {width : ℕ} (g : width ≡ row_width taps) where
    staged_whole : {row table table₁ : List ℤ} → PhasesOf (narrowed b) taps width phases table → ((k : ℕ) → k < taps - 1 → at row k ≡ narrowed b (suc k))
        → PutAt row (phases * width) (taps - 1) table table₁ → (phases + 1) * width ≤ length table₁ → Whole b valid table₁
    staged_whole p words put room = rows_whole b valid (rw (g, sizes.1, sizes.0) at p) (rw sizes.1 at words) (rw (g, sizes.1, sizes.0) at put) (rw (g, sizes.1, sizes.0) at room)

    -- the table has room for a row more than there are phases
    table_room : {n : ℕ} → (phases + 1) * row_width taps ≤ n → phases * width + width ≤ n
    table_room {n} h = omega (arith, ap (λ w. (phases + 1) * w) g)

    -- the impulses from the second one on narrowed into the last row
    last_row : (table row : List ℤ) (from count : ℕ) → from ≡ 6 → count ≡ taps - 1 → (phases + 1) * row_width taps ≤ length table → PhasesOf (narrowed b) taps width phases table
        → let a = phases * width in let m = length table - a in let words = part b from count in length row ≡ length (part table a m)
        → ((k : ℕ) → k < length words → at row k ≡ limit (negsuc 32767) (pos 32767) (at words k)) → ((k : ℕ) → length words ≤ k → at row k ≡ at (part table a m) k)
        → Whole b valid (take a table ++ (row ++ drop m (drop a table)))
    last_row table row from count second most room p long words rest =
        let a = phases * width in
        let m = length table - a in
        let few : length (part b from count) ≡ taps - 1 = part_length b from count (omega (arith, phase_room, taps_bounds, second, most)) ∙ most in
        let inside = table_room room in
        let put = put_lent table row a m m refl (omega (arith, inside)) long in
        let same = lent_length table row a m m refl (omega (arith, inside)) long in
        staged_whole p
        (λ k h. let e : from + k ≡ 5 + suc k = omega arith in
        words k (omega (arith, few)) ∙ ap (limit (negsuc 32767) (pos 32767)) (at_part b from count k (omega (arith, most)) ∙ ap (at b) e))
        (put_front put (omega (arith, inside, wide, g, taps_bounds)) (λ k h l. rest k (omega (arith, few)) ∙ at_part table a m k l)) (omega (arith, same, room, ap (λ w. (phases + 1) * w) g))

    staged_rows : {table : List ℤ} {positive : Bool} → Whole b valid table → (positive ≡ true → (q : ℕ) → q < phases + 1 → Positive table (q * width) width) → RowsOf b table positive
    staged_rows w each = let each' = rw (g, sizes.1, sizes.0) at each in record { room = w.room; word = w.word; each = λ e q h. ∣ each' e q (omega arith) ∣₁ }

pub phase_rows-requires-clause-taps : goal.phase_rows-requires-clause-taps
phase_rows-requires-clause-taps c =
    let t = taps_bounds c.args.book.now c.requires.accepted c.requires.sizes in
    (t.0, t.2, c.row_width-width.ensures)

pub phase_rows-requires-clause-fit : goal.phase_rows-requires-clause-fit
phase_rows-requires-clause-fit c =
    let b = c.args.book.now in
    let r = c.requires in
    record {
      few = (taps_bounds b r.accepted r.sizes).1;
      phases_few = phases_few b r.accepted r.sizes;
      wide = rw c.row_width-width.ensures (wide b r.accepted r.sizes);
      book_room = book_room b r.accepted r.sizes;
      table_room = omega (arith, table_room b r.accepted r.sizes c.row_width-width.ensures r.room);
      zeros = r.zeros;
    }

pub overflow_add-taps : goal.overflow_add-taps
overflow_add-taps c = omega (arith, phase_room c.args.book.now c.requires.accepted c.requires.sizes)

pub slice_bounds-put_narrowed-count-2 : goal.slice_bounds-put_narrowed-count-2
slice_bounds-put_narrowed-count-2 c = omega (arith, taps_bounds c.args.book.now c.requires.accepted c.requires.sizes)

pub slice_bounds-put_narrowed-start-2 : goal.slice_bounds-put_narrowed-start-2
slice_bounds-put_narrowed-start-2 c = omega (arith, taps_bounds c.args.book.now c.requires.accepted c.requires.sizes)

pub slice_bounds-put_narrowed-end-2 : goal.slice_bounds-put_narrowed-end-2
slice_bounds-put_narrowed-end-2 c = omega (arith, phase_room c.args.book.now c.requires.accepted c.requires.sizes)

pub put_narrowed-requires : goal.put_narrowed-requires
put_narrowed-requires c =
    let b = c.args.book.now in
    let r = c.requires in
    let table = c.phase_rows.new.table in
    let a = c.args.phases * c.row_width-width.result in
    let inside = table_room b r.accepted r.sizes c.row_width-width.ensures r.room in
    omega (
      arith,
      part_length b 6 (5 + c.args.taps - 6) (omega (arith, phase_room b r.accepted r.sizes, taps_bounds b r.accepted r.sizes)),
      part_length table a (length table - a) (omega (arith, inside)),
      inside,
      wide b r.accepted r.sizes,
      c.row_width-width.ensures,
    )

pub overflow_add-phases : goal.overflow_add-phases
overflow_add-phases c = omega (arith, phases_few c.args.book.now c.requires.accepted c.requires.sizes)

pub lobes-requires : goal.lobes-requires
lobes-requires c =
    let b = c.args.book.now in
    let r = c.requires in
    let g = c.row_width-width.ensures in
    let table = c.phase_rows.new.table in
    let a = c.args.phases * c.row_width-width.result in
    let m = length table - a in
    let inside = table_room b r.accepted r.sizes g r.room in (
      (taps_bounds b r.accepted r.sizes).0,
      rw g (wide b r.accepted r.sizes),
      rw g (row_width_between c.args.taps).1,
      omega (arith, inside, lent_length table c.put_narrowed.new.row a m m refl (omega (arith, inside)) c.put_narrowed.auto.row),
    )

pub returns-then-asked : goal.returns-then-asked
returns-then-asked c =
    let b = c.args.book.now in
    let r = c.requires in
    let g = c.row_width-width.ensures in
    let put = c.put_narrowed.ensures in
    staged_rows b r.accepted r.sizes g (last_row b r.accepted r.sizes g c.phase_rows.new.table c.put_narrowed.new.row 6 (5 + c.args.taps - 6) (omega arith) (omega (arith, taps_bounds b r.accepted r.sizes)) (omega (arith, r.room, c.phase_rows.auto.table)) c.phase_rows.ensures c.put_narrowed.auto.row put.words put.rest) c.lobes.ensures

pub returns-else-asked : goal.returns-else-asked
returns-else-asked c =
    let b = c.args.book.now in
    let r = c.requires in
    let g = c.row_width-width.ensures in
    let put = c.put_narrowed.ensures in
    staged_rows b r.accepted r.sizes g (last_row b r.accepted r.sizes g c.phase_rows.new.table c.put_narrowed.new.row 6 (5 + c.args.taps - 6) (omega arith) (omega (arith, taps_bounds b r.accepted r.sizes)) (omega (arith, r.room, c.phase_rows.auto.table)) c.phase_rows.ensures c.put_narrowed.auto.row put.words put.rest)
    (λ e. let f = c.if-asked.false in let z : ◌≡◌ {A = ℕ} 0 1 = cc in absurd (omega arith))
