-- `multiplies::values_made` meets its contract. Assumes nothing.
use borrow.Author.Tests.{eq-eqb, ne_eqb}
use Rattle.multiplies.specs.Multiplies.{values_made}
use Rattle.multiplies.proofs.values_made.Goals as goal

pub returns-then-step-eq0 : goal.returns-then-step-eq0
unfolding values_made
returns-then-step-eq0 c = simp (eq-eqb _ _ c.if-step-eq0.true)

pub returns-else-step-eq0 : goal.returns-else-step-eq0
unfolding values_made
returns-else-step-eq0 c = simp (ne_eqb _ _ c.if-step-eq0.false)
