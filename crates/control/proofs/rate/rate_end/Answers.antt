-- `control::rate::rate_end` meets its contract: each arm's constant is 2^(top + 1), by its bit pattern. Assumes nothing.
use mathlib.Core.Path.{◌≡◌, sym, ap}
use mathlib.Core.Bool.{false}
use Prim.Native.Nat.{ℕ, ◌+◌}
use native.Mathlib.Omega.{arith}
use lib.IntN.{pos}
use lib.Ieee.{fin, of_bits}
use Rattle.control.proofs.rate.rate_end.Goals as goal

at : {a b : ℕ} → a ≡ b → fin false 1 (pos (b + 1)) ≡ fin false 1 (pos (a + 1))
at e = ap (λ (t : ℕ). fin false 1 (pos (t + 1))) (sym e)

pub returns-in-0 : goal.returns-in-0
unfolding of_bits
returns-in-0 c = at c.in-0.is

pub returns-in-1 : goal.returns-in-1
unfolding of_bits
returns-in-1 c = at c.in-1.is

pub returns-in-2 : goal.returns-in-2
unfolding of_bits
returns-in-2 c = at c.in-2.is

pub returns-in-3 : goal.returns-in-3
unfolding of_bits
returns-in-3 c = at c.in-3.is

pub returns-in_default : goal.returns-in_default
unfolding of_bits
returns-in_default c = let e : c.before.args.top ≡ 4 = omega arith in at e
