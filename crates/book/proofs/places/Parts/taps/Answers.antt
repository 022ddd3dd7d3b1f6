-- `book::places::Parts::taps` meets its contract. Assumes nothing.
use Rattle.std.proofs.Common.{◌≡◌, ◌+◌, ◌-◌, ◌*◌, length, ap₂, ◌∙◌, arith}
use Rattle.arith.specs.Lists.{part}
use Rattle.book.proofs.Whole.{array, room, taps_are}
use Rattle.book.proofs.places.Parts.taps.Goals as goal

pub slice_bounds-result-count : goal.slice_bounds-result-count
slice_bounds-result-count c = omega (arith, room c.args.self.now)

pub slice_bounds-result-start : goal.slice_bounds-result-start
slice_bounds-result-start c = omega (arith, room c.args.self.now)

pub returns : goal.returns
returns c =
    let p = c.args.self.now in
    let a : 5 + 2 * c.array.result ≡ 5 + array p + array p = omega (arith, c.array.ensures.0) in
    let n : length p.words.now - (5 + 2 * c.array.result) ≡ p.sizes.reach + 1 + (p.sizes.decimation + 1) = omega (arith, c.array.ensures.0, room p) in
    ap₂ (λ a n. part p.words.now a n) a n ∙ taps_are p
