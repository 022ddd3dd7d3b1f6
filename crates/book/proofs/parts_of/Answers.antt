-- `book::parts_of` meets its contract: an accepted book has none of the numbers 1 to 3. Assumes nothing.
use Rattle.std.proofs.Common.{arith}
use Rattle.book.specs.Book.{sizes_of}
use Rattle.book.proofs.Accepted.{accepted}
use Rattle.book.proofs.Bounds.{length_is}
use Rattle.book.proofs.parts_of.Goals as goal

pub read_sizes-requires : goal.read_sizes-requires
read_sizes-requires c = let b = c.args.book.now in omega (arith, length_is (sizes_of b), (accepted b c.requires).lengthy)

pub invariant_of-result : goal.invariant_of-result
invariant_of-result c =
    let a = accepted c.args.book.now c.requires in
    record { read = c.read_sizes.ensures; in_range = a.sizes; long = a.lengthy }
