-- `player::outputs::fill_from` meets its contract. The loop's invariant: `Filled`, of the outputs so far. Assumes nothing.
use mathlib.Core.Path.{◌≡◌}
use Prim.Native.Nat.{◌-◌}
use lib.ListN.{length}
use Rattle.book.specs.Book.{sizes_of}
use Rattle.multiplies.specs.Inner.{run_values}
use Rattle.player.proofs.Filled.{Filled}
use Rattle.player.proofs.outputs.fill_from.Given as goal

abbrev pub invariant-loop-i : goal.invariant-loop-i
invariant-loop-i l = record {
  filled : Filled l.source.book.now l.source.store.now l.fn.v l.initial.out l.control l.line l.out l.i;
  counted : l.values ≡ run_values (sizes_of l.source.book.now).fade l.initial.control l.i;
}

abbrev pub decreases-loop-i : goal.decreases-loop-i
decreases-loop-i l = length l.initial.out - l.i
