-- `positions::control_at` meets its contract: the rate and the glide are what their calls say. Assumes nothing.
use mathlib.Core.Path.{ap₂}
use Prim.Native.Nat.{ℕ}
use native.Mathlib.Omega.{arith}
use borrow.Author.Tests.{ne_eqb}
use Rattle.control.specs.declared.Glide.{Glide}
use Rattle.control.specs.declared.Control.{Control}
use Rattle.positions.specs.Inner.{control_at}
use Rattle.positions.proofs.control_at.Goals as goal

pub returns : goal.returns
unfolding control_at
returns c =
    let a = c.args in
    let after : ℕ → Glide → Control = λ R g. record { top = a.rates.control.top; fade = a.f; rate = R; glide = g; position = a.position } in
    simp (ne_eqb a.i 0 (λ e. absurd (omega arith))) (ap₂ after c.rate_at.ensures c.glide_at.ensures)
