-- `windows::staging::staged` meets its contract: words that limiting leaves as they are are the window's. Assumes nothing.
use mathlib.Core.Path.{◌≡◌, ap, ◌∙◌}
use mathlib.Core.List.{List}
use Prim.Native.Nat.{suc, ◌+◌, ◌-◌}
use native.Mathlib.Omega.{arith}
use lib.IntN.{ℤ, nat_abs}
use lib.ListN.{length}
use Rattle.arith.specs.Lists.{at, part}
use Rattle.arith.proofs.Bits.{reads}
use Rattle.arith.proofs.Lists.{part_length, at_part}
use Rattle.windows.proofs.Staged.{bound_fits, bound-small, inside_word}
use Rattle.windows.proofs.staging.staged.Goals as goal

pub copied-requires-clause-bound : goal.copied-requires-clause-bound
copied-requires-clause-bound c = bound-small c.args.level c.requires.0 c.level_bound.result c.level_bound.ensures

pub returns-then-copied : goal.returns-then-copied
returns-then-copied c k h =
    let words = c.args.words.now in
    let end = c.args.end in
    let start = end + 1 - length c.args.window.now in
    let inside : List ℤ = part words start (end + 1 - start) in
    let many : length inside ≡ length c.args.window.now = omega (arith, part_length words start (end + 1 - start) (omega arith)) in
    let j = length inside - suc k in
    let f = bound_fits c.args.level c.requires.0 c.level_bound.result c.level_bound.ensures in
    let e : start + j ≡ end - k = omega (arith, many) in
    let word : at inside j ≡ at words (end - k) = at_part words start (end + 1 - start) j (omega (arith, many)) ∙ ap (at words) e in
    let small = simp (reads, f) at (c.copied.ensures.within c.if-copied.true j (omega (arith, many))) in
    c.copied.ensures.copy k (omega (arith, many)) ∙ word
    ∙ inside_word words c.args.level end k (omega arith) (omega (arith, small, ap nat_abs word, ap nat_abs c.level_bound.ensures))
