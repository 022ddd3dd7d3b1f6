-- `book::columns::raise` meets its contract. Assumes nothing.
use Rattle.std.proofs.Common.{rules, ◌<◌, length, ◌≤ℤ◌, arith, w16, w32, SFits}
use Rattle.arith.specs.Lists.{at}
use Rattle.arith.proofs.Bits.{reads}
use Rattle.book.specs.Columns.{Bounds}
use Rattle.book.proofs.ColumnBounds.{bounds_more, bounds_word, raised_more, raised_set, raised_next}
use Rattle.book.proofs.columns.raise.Goals as goal

pub loop-k-preserved : goal.loop-k-preserved
loop-k-preserved c =
    let l = c.loop-k in
    let words = c.args.words.now in
    let word_fits : SFits w32 (at words l.k) = search rules in
    let old_fits : SFits w16 (at l.bounds l.k) = search rules in
    let narrow_fits : SFits w16 c.narrow.result = search rules in
    let folded_fits : SFits w16 c.folded.result = search rules in
    let fits : SFits w16 c.max.result = search rules in
    let inside : l.k < length l.bounds = omega arith in
    let narrowed = simp (reads, word_fits) at c.narrow.ensures in
    let folded = simp (reads, narrow_fits) at c.folded.ensures in
    let rises : at l.bounds l.k ≤ℤ c.max.result = simp (reads, old_fits) at c.max.ensures.self_bound in
    let reached : c.folded.result ≤ℤ c.max.result = simp (reads, folded_fits) at c.max.ensures.other_bound in
    let bounded = bounds_more reached (bounds_word (at words l.k) c.narrow.result c.folded.result narrowed folded) in (
      simp (reads, fits) (raised_more l.invariant.0 (raised_set l.bounds l.k c.max.result inside rises)),
      simp (reads, fits) (raised_next (λ j x. Bounds x (at words j)) (λ j x y. bounds_more) l.bounds l.k c.max.result inside rises bounded l.invariant.1),
    )
