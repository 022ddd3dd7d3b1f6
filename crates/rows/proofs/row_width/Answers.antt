-- `rows::row_width` meets its contract: its two tests are those of `row_width`. Assumes nothing.
use borrow.Author.Tests.{le-leb, lt-leb}
use Rattle.rows.specs.Rows.{row_width}
use Rattle.rows.proofs.row_width.Goals as goal

pub returns-then-taps-le8 : goal.returns-then-taps-le8
unfolding row_width
returns-then-taps-le8 c = simp (le-leb c.before.args.taps 8 c.if-taps-le8.true)

pub returns-then-taps-le16 : goal.returns-then-taps-le16
unfolding row_width
returns-then-taps-le16 c = simp (lt-leb c.before.before.args.taps 8 c.before.if-taps-le8.false, le-leb c.before.before.args.taps 16 c.if-taps-le16.true)

pub returns : goal.returns
unfolding row_width
returns c = simp (lt-leb c.before.before.args.taps 8 c.before.if-taps-le8.false, lt-leb c.before.before.args.taps 16 c.if-taps-le16.false)
