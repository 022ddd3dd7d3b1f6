-- `octave::word_after` meets its contract: the word is read where its place is below the length. Assumes nothing.
use mathlib.Core.Path.{sym}
use Prim.Native.Nat.{◌+◌}
use native.Mathlib.Omega.{arith}
use mir.Syntax.{w32}
use mir.Val.{SFits}
use mir.Facts.{sfits_widen}
use Rattle.arith.specs.Lists.{at}
use Rattle.arith.proofs.Bits.{reads}
use Rattle.book.proofs.Around.{after_inside, after_outside}
use Rattle.octave.proofs.word_after.Goals as goal
use Rattle.octave.proofs.word_after.Goals.{After-result-1}

word_fits : (c : After-result-1) → SFits w32 (at c.before.before.args.level.now (c.before.before.args.centre + c.before.before.args.k))
word_fits c = record { sfits = c.result-1.given }

pub overflow_cast-result : goal.overflow_cast-result
overflow_cast-result c = simp (reads, word_fits c) (sfits_widen tt (word_fits c))

pub returns-then-k-level : goal.returns-then-k-level
returns-then-k-level c =
    let s = c.before.before in
    simp (reads, word_fits c) (sym (after_inside s.args.level.now s.args.centre s.args.k))

pub returns-else-k-level : goal.returns-else-k-level
returns-else-k-level c =
    let s = c.before in
    sym (after_outside s.args.level.now s.args.centre s.args.k (omega arith))
