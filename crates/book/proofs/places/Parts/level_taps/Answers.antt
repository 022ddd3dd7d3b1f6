-- `book::places::Parts::level_taps` meets its contract. Assumes nothing.
use Rattle.std.proofs.Common.{◌+◌, length, take, ap, sym, ◌∙◌, arith}
use Rattle.std.proofs.lemmas.List.{length-take-le}
use Rattle.book.proofs.Whole.{room, taps_length, level_taps_are, level_taps_few}
use Rattle.book.proofs.places.Parts.level_taps.Goals as goal

pub overflow_add-result : goal.overflow_add-result
overflow_add-result c = omega (arith, room c.args.self.now)

pub slice_bounds-result-end : goal.slice_bounds-result-end
slice_bounds-result-end c =
    let p = c.args.self.now in
    sym (length-take-le (p.sizes.reach + 1) c.taps.result.now (omega (arith, ap length c.taps.ensures, taps_length p)))

pub returns : goal.returns
returns c =
    let p = c.args.self.now in
    let e = ap (take (p.sizes.reach + 1)) c.taps.ensures ∙ level_taps_are p in
    record { words = e; few = level_taps_few p e }
