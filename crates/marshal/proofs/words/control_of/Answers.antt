-- `marshal::words::control_of` meets its contract, field by field. Assumes nothing.
use Rattle.marshal.specs.Words.{control_of}
use Rattle.marshal.proofs.words.control_of.Goals as goal

pub returns : goal.returns
unfolding control_of
returns c =
    simp (c.unsigned_at.ensures, c.unsigned_at-2.ensures, c.unsigned_at-3.ensures, c.unsigned_at-4.ensures, c.wide_at.ensures, c.wide_at-2.ensures, c.wide_at-3.ensures, c.unsigned_at-5.ensures, c.unsigned_at-6.ensures, c.wide_at-4.ensures)
