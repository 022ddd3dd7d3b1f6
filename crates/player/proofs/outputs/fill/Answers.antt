-- `player::outputs::fill` meets its contract: the rows of any book have room in the larger table. Assumes nothing.
use mathlib.Core.Path.{◌≡◌, refl}
use mathlib.Core.List.{List}
use Prim.Native.Nat.{◌+◌, ◌*◌, ◌≤◌}
use native.Mathlib.Nat.{mul-le-mul}
use native.Mathlib.Omega.{arith}
use lib.IntN.{ℤ}
use lib.ListN.{length}
use Rattle.book.specs.Book.{sizes_of}
use Rattle.book.proofs.Accepted.{Accepted, accepted, sizes_bounded, sizes_room}
use Rattle.rows.specs.Rows.{row_width}
use Rattle.rows.proofs.ImpulseRows.{row_width_between}
use Rattle.player.proofs.Accepted.{play_accepted}
use Rattle.player.proofs.outputs.fill.Goals as goal

-- the rows of any book
rows_room : (b : List ℤ) → Accepted b → ((sizes_of b).phases + 1) * row_width (sizes_of b).taps ≤ 129 * 32
rows_room b a =
    let few : (sizes_of b).phases + 1 ≤ 129 = omega (arith, (sizes_bounded b a).phases_high) in
    mul-le-mul few (row_width_between (sizes_of b).taps).1

pub read_sizes-sizes-requires : goal.read_sizes-sizes-requires
read_sizes-sizes-requires c =
    let b = c.args.book.now in
    let a = accepted b (play_accepted b c.args.store.now c.args.v _ c.requires).book_accepted in
    omega (arith, (sizes_room b a (sizes_of b) refl).0)

pub overflow_add-sizes : goal.overflow_add-sizes
overflow_add-sizes c =
    let b = c.args.book.now in
    let a = accepted b (play_accepted b c.args.store.now c.args.v _ c.requires).book_accepted in
    rw c.read_sizes-sizes.ensures (omega (arith, (sizes_bounded b a).phases_high))

pub overflow_mul-sizes : goal.overflow_mul-sizes
overflow_mul-sizes c =
    let b = c.args.book.now in
    let a = accepted b (play_accepted b c.args.store.now c.args.v _ c.requires).book_accepted in
    rw (c.row_width.ensures, c.read_sizes-sizes.ensures) (omega (arith, rows_room b a))

pub fill_within-requires-2-clause-room : goal.fill_within-requires-2-clause-room
fill_within-requires-2-clause-room c =
    let b = c.args.book.now in
    let a = accepted b (play_accepted b c.args.store.now c.args.v _ c.requires).book_accepted in
    (omega (arith, rows_room b a), omega arith)
