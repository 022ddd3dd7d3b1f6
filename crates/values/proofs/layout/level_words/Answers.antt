-- `values::layout::level_words` meets its contract: a level lies in the store between its place and the next one's. Assumes nothing.
use native.Mathlib.Omega.{arith}
use Rattle.values.proofs.Layouts.{start_below, end_inside, words_are, words_count}
use Rattle.values.proofs.layout.level_words.Goals as goal

pub offset_bounds-store-start : goal.offset_bounds-store-start
offset_bounds-store-start c = let s = c.before.before in omega (arith, start_below s.requires.0 s.requires.1, end_inside s.requires.0 s.requires.1)

pub slice_bounds-result-count : goal.slice_bounds-result-count
slice_bounds-result-count c = let s = c.before.before in omega (arith, start_below s.requires.0 s.requires.1)

pub slice_bounds-result-start : goal.slice_bounds-result-start
slice_bounds-result-start c = let s = c.before.before in omega (arith, start_below s.requires.0 s.requires.1)

pub slice_bounds-result-end : goal.slice_bounds-result-end
slice_bounds-result-end c = let s = c.before.before in omega (arith, end_inside s.requires.0 s.requires.1)

pub returns : goal.returns
returns c = let s = c.before.before.before in (words_are s.requires.0 s.requires.1, words_count s.requires.0 s.requires.1)
