-- `book::places::Parts::decimation_taps` meets its contract. Assumes nothing.
use Rattle.std.proofs.Common.{◌≡◌, ◌+◌, ◌-◌, List, length, take, drop, ℤ, ap, ap₂, ◌∙◌, arith}
use Rattle.book.specs.declared.places.Parts.{Parts}
use Rattle.book.specs.Inner.{taps}
use Rattle.book.proofs.Whole.{room, taps_length, decimation_taps_are, decimation_taps_few}
use Rattle.book.proofs.places.Parts.decimation_taps.Goals as goal

count : (p : Parts) (xs : List ℤ) → xs ≡ taps p.words.now → length xs ≡ p.sizes.reach + 1 + (p.sizes.decimation + 1)
count p xs e = ap length e ∙ taps_length p

pub overflow_add-result : goal.overflow_add-result
overflow_add-result c = omega (arith, room c.args.self.now)

pub offset_bounds-taps-self : goal.offset_bounds-taps-self
offset_bounds-taps-self c = omega (arith, room c.args.self.now)

pub slice_bounds-result-count : goal.slice_bounds-result-count
slice_bounds-result-count c = omega (arith, count c.args.self.now c.taps.result.now c.taps.ensures)

pub slice_bounds-result-start : goal.slice_bounds-result-start
slice_bounds-result-start c = omega (arith, count c.args.self.now c.taps.result.now c.taps.ensures)

pub returns : goal.returns
returns c =
    let p = c.args.self.now in
    let n : length c.taps.result.now - (p.sizes.reach + 1) ≡ p.sizes.decimation + 1 = omega (arith, count p c.taps.result.now c.taps.ensures) in
    let e = ap₂ (λ n xs. take n (drop (p.sizes.reach + 1) xs)) n c.taps.ensures ∙ decimation_taps_are p in
    record { words = e; few = decimation_taps_few p e }
