-- `book::places::Parts::differences` meets its contract. Assumes nothing.
use Rattle.std.proofs.Common.{◌≡◌, ◌+◌, ◌-◌, ap₂, ◌∙◌, arith}
use Rattle.arith.specs.Lists.{part}
use Rattle.book.proofs.Whole.{array, room, differences_are, differences_long}
use Rattle.book.proofs.places.Parts.differences.Goals as goal

pub slice_bounds-result-end : goal.slice_bounds-result-end
slice_bounds-result-end c = omega (arith, room c.args.self.now)

pub returns : goal.returns
returns c =
    let p = c.args.self.now in
    let a : 5 + c.array-start.result ≡ 5 + array p = omega (arith, c.array-start.ensures.0) in
    let n : 5 + c.array-start.result + c.array.result - (5 + c.array-start.result) ≡ array p = omega (arith, c.array.ensures.0) in
    let e = ap₂ (λ a n. part p.words.now a n) a n ∙ differences_are p in
    record { words = e; long = differences_long p e }
