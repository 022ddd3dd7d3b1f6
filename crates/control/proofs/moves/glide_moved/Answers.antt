-- `control::moves::glide_moved` meets its contract. Assumes nothing.
use mathlib.Core.Path.{◌≡◌, ap, ◌∙◌}
use Prim.Native.Nat.{suc}
use native.Mathlib.Numerals.{add-one}
use borrow.Author.Tests.{ne_eqb}
use Rattle.arith.proofs.Tests.{tests}
use Rattle.control.specs.Moves.{glide_rate, glide_after, move_glide}
use Rattle.control.proofs.moves.glide_moved.Goals as goal

pub returns-then-g-eq0 : goal.returns-then-g-eq0
unfolding move_glide
returns-then-g-eq0 c = search tests

pub returns : goal.returns
unfolding move_glide
returns c =
    let g = c.args.c.glide in
    let rate : c.glide_rate.result ≡ glide_rate g (suc g.done) = c.glide_rate.ensures ∙ ap (glide_rate g) (add-one g.done) in
    let glide : c.glide_after.result ≡ glide_after g (suc g.done) = c.glide_after.ensures ∙ ap (glide_after g) (add-one g.done) in
    simp (ne_eqb g.count 0 c.if-g-eq0.false) (cc)
