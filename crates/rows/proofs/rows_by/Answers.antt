-- `rows::rows_by` meets its contract. The loop's invariant: the rows of the phases passed are written, and 0 stands behind them. Assumes nothing.
use mathlib.Core.Path.{◌≡◌, ap, ◌∙◌}
use Prim.Native.Nat.{ℕ, ◌+◌, ◌-◌, ◌*◌, ◌≤◌, ◌<◌}
use native.Mathlib.Nat.{mul-le-mul_right}
use native.Mathlib.Omega.{arith}
use lib.IntN.{pos, negsuc}
use lib.ListN.{length}
use Rattle.arith.specs.Limit.{limit}
use Rattle.arith.specs.Lists.{at}
use Rattle.arith.proofs.Lists.{at_part, part_length}
use Rattle.rows.specs.Rows.{narrowed}
use Rattle.rows.proofs.ImpulseRows.{narrowed_row, phases_none, phases_more, put_lent}
use Rattle.rows.proofs.rows_by.Goals as goal

-- the q-th of m rows of n words
row_room : (q n : ℕ) {m : ℕ} → q < m → q * n + n ≤ m * n
row_room q n {m} h = let l : q + 1 ≤ m = omega arith in omega (arith, mul-le-mul_right n l)

pub loop-q-init : goal.loop-q-init
loop-q-init g c = phases_none (narrowed c.args.book.now) g.row.N g.row.W c.args.table.now c.requires.zeros

pub overflow_mul-q : goal.overflow_mul-q
overflow_mul-q g c = omega (arith, row_room c.loop-q.q g.row.N c.loop-q-test.true, c.requires.book_room)

pub overflow_add-q : goal.overflow_add-q
overflow_add-q g c = omega (arith, row_room c.loop-q.q g.row.N c.loop-q-test.true, c.requires.book_room)

pub slice_bounds-row_of-start : goal.slice_bounds-row_of-start
slice_bounds-row_of-start g c = omega (arith, row_room c.loop-q.q g.row.N c.loop-q-test.true, c.requires.book_room)

pub row_of-row-requires : goal.row_of-row-requires
row_of-row-requires g c =
    let from = 5 + c.loop-q.q * g.row.N in
    let room = row_room c.loop-q.q g.row.N c.loop-q-test.true in
    omega (arith, room, c.requires.book_room, part_length c.args.book.now from (length c.args.book.now - from) (omega (arith, room, c.requires.book_room)))

pub loop-q-preserved : goal.loop-q-preserved
loop-q-preserved g c =
    let q = c.loop-q.q in
    let book = c.args.book.now in
    let from = 5 + q * g.row.N in
    let row = c.copy_from_slice.new.self in
    let book_room = row_room q g.row.N c.loop-q-test.true in
    let table_room = row_room q g.row.W c.loop-q-test.true in
    let many : q * g.row.W + g.row.N - q * g.row.W ≡ g.row.N = omega arith in
    phases_more c.loop-q.invariant c.requires.wide
    (λ k h. narrowed_row book (q * g.row.N) k
    (ap (λ xs. at xs k) c.copy_from_slice.ensures.after ∙ c.row_of-row.ensures k h
    ∙ ap (limit (negsuc 32767) (pos 32767)) (at_part book from (length book - from) k (omega (arith, book_room, c.requires.book_room)))))
    (put_lent c.loop-q.table row (q * g.row.W) (q * g.row.W + g.row.N - q * g.row.W) g.row.N many (omega (arith, table_room, c.requires.wide, c.requires.table_room)) c.copy_from_slice.ensures.len)
