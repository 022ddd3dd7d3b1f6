-- `book::read_sizes` meets its contract. Assumes nothing.
use Rattle.book.specs.Book.{sizes_of}
use Rattle.book.proofs.read_sizes.Goals as goal

pub returns : goal.returns
unfolding sizes_of
returns c =
    simp (
      c.before.before.before.before.word_size.ensures.0,
      c.before.before.before.word_size-2.ensures.0,
      c.before.before.word_size-3.ensures.0,
      c.before.word_size-4.ensures.0,
      c.word_size-5.ensures.0,
    )
