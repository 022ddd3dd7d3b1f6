-- `positions::glide::glide_at` meets its contract: the code makes the definition's test. Assumes nothing.
use native.Mathlib.Omega.{arith}
use borrow.Author.Tests.{eq-eqb, ne_eqb}
use Rattle.positions.specs.Inner.{glide_at}
use Rattle.positions.proofs.glide.glide_at.Goals as goal

pub returns-then-g-eq0 : goal.returns-then-g-eq0
unfolding glide_at
returns-then-g-eq0 c = simp (eq-eqb c.before.before.args.g.count 0 c.if-g-eq0.true)

pub overflow_add-g : goal.overflow_add-g
overflow_add-g c = let f = c.before.before.before.requires.1 c.before.if-g-eq0.false in omega arith

pub returns : goal.returns
unfolding glide_at
returns c =
    let e = c.before.before in
    simp (ne_eqb e.before.before.args.g.count 0 e.if-g-eq0.false) c.glide_after.ensures
