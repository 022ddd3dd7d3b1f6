-- `rows::lobe` meets its contract: if neither number is positive, nor is their sum. Assumes nothing.
use mathlib.Core.Logic.{◌⊎◌, inl, inr}
use Prim.Native.Nat.{◌-◌}
use native.Mathlib.Omega.{arith}
use lib.IntN.{ℤ, pos, ◌+ℤ◌}
use lib.Signed.{◌≤ℤ◌, ◌<ℤ◌}
use mir.Syntax.{w16, w32}
use mir.Val.{SFits}
use mir.Facts.{sfits_widen}
use Rattle.std.proofs.lemmas.Int.{ints}
use Rattle.arith.specs.Lists.{at}
use Rattle.arith.proofs.Bits.{reads, to_z_of_z_from}
use Rattle.arith.proofs.Integers.{≤ℤ-or-<ℤ}
use Rattle.arith.proofs.Linear.{linear}
use Rattle.rows.proofs.lobe.Goals as goal
use Rattle.rows.proofs.lobe.Goals.{After-result-1, After-result-2-1}

-- the two numbers
module _ (c : After-result-1) where
  abbrev x : ℤ
  x = at c.before.args.table.now (c.before.args.middle - 1)

  x_fits : SFits w16 x
  x_fits = record { sfits = c.result-1.given }

module _ (c : After-result-2-1) where
  abbrev y : ℤ
  y = at c.before.before.args.table.now c.before.before.args.middle

  y_fits : SFits w16 y
  y_fits = record { sfits = c.result-2-1.given }

  sum_fits : SFits w32 (x c.before +ℤ y)
  sum_fits = simp linear (omega (arith, simp linear at (x_fits c.before), simp linear at y_fits))

pub overflow_cast-result : goal.overflow_cast-result
overflow_cast-result c = simp (reads, x_fits c) (sfits_widen tt (x_fits c))

pub overflow_cast-result-2 : goal.overflow_cast-result-2
overflow_cast-result-2 c = simp (reads, y_fits c) (sfits_widen tt (y_fits c))

pub overflow_add-result : goal.overflow_add-result
overflow_add-result c = simp (reads, to_z_of_z_from w16, x_fits c.before, y_fits c) (sum_fits c)

pub returns : goal.returns
returns c e = go (≤ℤ-or-<ℤ (pos 1) (x c.before))
  where
    go : (pos 1 ≤ℤ x c.before) ⊎ (x c.before <ℤ pos 1) → (pos 1 ≤ℤ x c.before) ⊎ (pos 1 ≤ℤ y c)
    go (inl l) = inl l
    go (inr l) =
        let sum = simp (reads, to_z_of_z_from w16, x_fits c.before, y_fits c, sum_fits c) at e in
        inr (omega (arith, ints))
