-- `book::places::Parts::array` meets its contract. Assumes nothing.
use Rattle.std.proofs.Common.{refl, arith}
use Rattle.book.proofs.Whole.{room}
use Rattle.book.proofs.places.Parts.array.Goals as goal

pub overflow_mul-result : goal.overflow_mul-result
overflow_mul-result c = omega (arith, room c.args.self.now)

pub returns : goal.returns
returns c = (refl, (room c.args.self.now).1)
