-- `values::layout::layout_of` meets its contract: the sizes are the book's, and the places those that the store's header gives. Assumes nothing.
use mathlib.Core.Path.{ap, ap₂, ◌∙◌}
use native.Mathlib.Numerals.{add-one}
use native.Mathlib.Omega.{arith}
use Rattle.book.specs.Book.{sizes_of}
use Rattle.book.proofs.Bounds.{length_is}
use Rattle.book.proofs.Accepted.{Accepted, accepted, sizes_bounded}
use Rattle.store.specs.Sizes.{level_start, store_length}
use Rattle.store.proofs.Accepted.{Accepted as StoreAccepted, accepted as store_accepted}
use Rattle.values.proofs.layout.layout_of.Goals as goal
use Rattle.values.proofs.layout.layout_of.Goals.{Start}

module _ (s : Start) where
  book : Accepted s.args.book.now
  book = accepted s.args.book.now s.requires.0

  store : StoreAccepted s.args.store.now
  store = store_accepted s.args.store.now s.requires.1

pub read_sizes-s-requires : goal.read_sizes-s-requires
read_sizes-s-requires c = omega (arith, (book c).lengthy, length_is (sizes_of c.args.book.now))

pub overflow_cast-fade : goal.overflow_cast-fade
overflow_cast-fade c = let r = c.before in let s = r.before in omega (arith, ap (λ z. z.fade) r.read_sizes-s.ensures, (sizes_bounded s.args.book.now (book s)).fade_high)

pub sample_count-requires : goal.sample_count-requires
sample_count-requires c = (store c.before.before).header

pub top_level-requires : goal.top_level-requires
top_level-requires c = (store c.before.before.before).header

pub level_starts-starts-requires : goal.level_starts-starts-requires
level_starts-starts-requires c =
    let s = c.before.before.before.before in
    (omega (arith, c.before.sample_count.ensures, (store s).samples_high), omega (arith, c.top_level.ensures, (store s).top_high))

pub returns : goal.returns
unfolding store_length
returns c =
    let t = c.before in
    let r = t.before.before.before in
    let s = r.before in
    let e = r.read_sizes-s.ensures in
    record {
      sizes = record { book_accepted = s.requires.0; taps = ap (λ z. z.taps) e; phases = ap (λ z. z.phases) e; fade = ap (λ z. z.fade) e };
      levels = record {
        samples_high = (store s).samples_high;
        starts = λ j h. c.level_starts-starts.ensures j h ∙ ap₂ (λ S T. level_start S T j) t.before.sample_count.ensures t.top_level.ensures;
        room = rw add-one (store s).room;
      };
    }
