-- `book::ranges::coefficients_in_range` meets its contract. Assumes nothing.
use Rattle.std.proofs.Common.{refl, ap, ◌∙◌}
use Rattle.book.specs.Check.{coefficients_in_range}
use Rattle.book.proofs.Chained.{made, not_made}
use Rattle.book.proofs.Whole.{tested, impulses_tested, taps_tested}
use Rattle.book.proofs.ranges.coefficients_in_range.Goals as goal

pub returns-then-words_in_range : goal.returns-then-words_in_range
unfolding coefficients_in_range
returns-then-words_in_range c =
    let p = c.args.book.now in
    let first = c.words_in_range.ensures ∙ ap tested c.impulses.ensures.words ∙ impulses_tested p in
    made first c.if-words_in_range.true (c.words_in_range-then-words_in_range.ensures ∙ ap tested c.taps.ensures ∙ taps_tested p) refl

pub returns-else-words_in_range : goal.returns-else-words_in_range
unfolding coefficients_in_range
returns-else-words_in_range c =
    let p = c.args.book.now in
    let first = c.words_in_range.ensures ∙ ap tested c.impulses.ensures.words ∙ impulses_tested p in
    not_made _ first c.if-words_in_range.false refl
