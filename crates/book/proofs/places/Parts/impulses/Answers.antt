-- `book::places::Parts::impulses` meets its contract. Assumes nothing.
use Rattle.std.proofs.Common.{◌≡◌, ◌+◌, ◌-◌, ap, ◌∙◌, arith}
use Rattle.arith.specs.Lists.{part}
use Rattle.book.proofs.Whole.{array, room, impulses_are, impulses_long, impulses_room}
use Rattle.book.proofs.places.Parts.impulses.Goals as goal

pub slice_bounds-result-end : goal.slice_bounds-result-end
slice_bounds-result-end c = omega (arith, room c.args.self.now)

pub returns : goal.returns
returns c =
    let p = c.args.self.now in
    let n : 5 + c.array.result - 5 ≡ array p = omega (arith, c.array.ensures.0) in
    let e = ap (part p.words.now 5) n ∙ impulses_are p in
    record { words = e; long = impulses_long p e; room = impulses_room p e }
