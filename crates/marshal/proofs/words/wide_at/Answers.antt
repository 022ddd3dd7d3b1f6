-- `marshal::words::wide_at` meets its contract. Assumes nothing.
use Rattle.marshal.specs.Words.{wide}
use Rattle.marshal.proofs.words.wide_at.Goals as goal

pub returns : goal.returns
unfolding wide
returns c = simp (c.unsigned_at.ensures, c.unsigned_at-2.ensures)
