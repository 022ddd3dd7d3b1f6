-- `windows::staging::word_before` meets its contract: the word is read where its place lies inside the level. Assumes nothing.
use mathlib.Core.Path.{sym, ◌∙◌}
use Prim.Native.Nat.{◌-◌}
use native.Mathlib.Omega.{arith}
use mir.Syntax.{w32}
use mir.Val.{SFits}
use Rattle.arith.specs.Lists.{at}
use Rattle.arith.proofs.Bits.{reads}
use Rattle.arith.proofs.Lists.{at_outside}
use Rattle.book.proofs.Around.{before_inside, before_outside}
use Rattle.windows.proofs.staging.word_before.Goals as goal
use Rattle.windows.proofs.staging.word_before.Goals.{After-result-1}

pub returns-then-end-back : goal.returns-then-end-back
returns-then-end-back c =
    let s = c.before in
    sym (before_outside s.args.words.now s.args.end s.args.back (omega arith))

word_fits : (c : After-result-1) → SFits w32 (at c.before.before.before.args.words.now (c.before.before.before.args.end - c.before.before.before.args.back))
word_fits c = record { sfits = c.result-1.given }

pub returns-then-i-words : goal.returns-then-i-words
returns-then-i-words c =
    let s = c.before.before.before in
    simp (reads, word_fits c) (sym (before_inside s.args.words.now s.args.end s.args.back (omega arith)))

pub returns : goal.returns
returns c =
    let s = c.before.before in
    sym
    (before_inside s.args.words.now s.args.end s.args.back (omega arith)
    ∙ at_outside s.args.words.now (s.args.end - s.args.back) (omega arith))
