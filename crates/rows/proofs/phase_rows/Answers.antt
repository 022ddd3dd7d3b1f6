-- `rows::phase_rows` meets its contract: in each arm the constants are the taps and the width. Assumes nothing.
use mathlib.Core.Path.{◌≡◌, ap, ◌∙◌}
use mathlib.Core.List.{List}
use Prim.Native.Nat.{ℕ}
use native.Mathlib.Omega.{arith}
use lib.IntN.{ℤ}
use Rattle.rows.specs.Rows.{row_width, narrowed, PhasesFit, PhasesOf}
use Rattle.rows.proofs.phase_rows.Goals as goal
use Rattle.rows.proofs.phase_rows.Goals.{In_default, Start}

-- the arm for n taps
module _ (s : Start) {n : ℕ} (e : s.args.taps ≡ n) where
  width_is : s.args.width ≡ row_width n
  width_is = s.requires.taps.2 ∙ ap row_width e

  fit : PhasesFit s.args.book.now n (row_width n) s.args.phases s.args.table.now
  fit = rw (← e, ← s.requires.taps.2) s.requires.fit

  rows : {table : List ℤ} → PhasesOf (narrowed s.args.book.now) n (row_width n) s.args.phases table → PhasesOf (narrowed s.args.book.now) s.args.taps s.args.width s.args.phases table
  rows p = rw (width_is, e) p

-- past the other arms 24 is left
last : (c : In_default) → c.before.args.taps ≡ 24
last c = omega (arith, c.requires.fit.few)

pub rows_by-requires : goal.rows_by-requires
unfolding row_width
rows_by-requires c = fit c.before.before c.before.in-2.is

pub rows_of_four-requires : goal.rows_of_four-requires
unfolding row_width
rows_of_four-requires c = fit c.before.before c.before.in-4.is

pub rows_by-requires-in-6 : goal.rows_by-requires-in-6
unfolding row_width
rows_by-requires-in-6 c = fit c.before.before c.before.in-6.is

pub rows_by-requires-in-8 : goal.rows_by-requires-in-8
unfolding row_width
rows_by-requires-in-8 c = fit c.before.before c.before.in-8.is

pub rows_by-requires-in-10 : goal.rows_by-requires-in-10
unfolding row_width
rows_by-requires-in-10 c = fit c.before.before c.before.in-10.is

pub rows_by-requires-in-12 : goal.rows_by-requires-in-12
unfolding row_width
rows_by-requires-in-12 c = fit c.before.before c.before.in-12.is

pub rows_by-requires-in-14 : goal.rows_by-requires-in-14
unfolding row_width
rows_by-requires-in-14 c = fit c.before.before c.before.in-14.is

pub rows_by-requires-in-16 : goal.rows_by-requires-in-16
unfolding row_width
rows_by-requires-in-16 c = fit c.before.before c.before.in-16.is

pub rows_by-requires-in-18 : goal.rows_by-requires-in-18
unfolding row_width
rows_by-requires-in-18 c = fit c.before.before c.before.in-18.is

pub rows_by-requires-in-20 : goal.rows_by-requires-in-20
unfolding row_width
rows_by-requires-in-20 c = fit c.before.before c.before.in-20.is

pub rows_by-requires-in-22 : goal.rows_by-requires-in-22
unfolding row_width
rows_by-requires-in-22 c = fit c.before.before c.before.in-22.is

pub rows_by-requires-in_default : goal.rows_by-requires-in_default
unfolding row_width
rows_by-requires-in_default c = fit c.before.before (last c.before)

pub returns-in-2 : goal.returns-in-2
unfolding row_width
returns-in-2 c = rows c.before.before.before.before c.before.before.before.in-2.is c.before.rows_by.ensures

pub returns-in-4 : goal.returns-in-4
unfolding row_width
returns-in-4 c = rows c.before.before.before.before c.before.before.before.in-4.is c.before.rows_of_four.ensures

pub returns-in-6 : goal.returns-in-6
unfolding row_width
returns-in-6 c = rows c.before.before.before.before c.before.before.before.in-6.is c.before.rows_by-in-6.ensures

pub returns-in-8 : goal.returns-in-8
unfolding row_width
returns-in-8 c = rows c.before.before.before.before c.before.before.before.in-8.is c.before.rows_by-in-8.ensures

pub returns-in-10 : goal.returns-in-10
unfolding row_width
returns-in-10 c = rows c.before.before.before.before c.before.before.before.in-10.is c.before.rows_by-in-10.ensures

pub returns-in-12 : goal.returns-in-12
unfolding row_width
returns-in-12 c = rows c.before.before.before.before c.before.before.before.in-12.is c.before.rows_by-in-12.ensures

pub returns-in-14 : goal.returns-in-14
unfolding row_width
returns-in-14 c = rows c.before.before.before.before c.before.before.before.in-14.is c.before.rows_by-in-14.ensures

pub returns-in-16 : goal.returns-in-16
unfolding row_width
returns-in-16 c = rows c.before.before.before.before c.before.before.before.in-16.is c.before.rows_by-in-16.ensures

pub returns-in-18 : goal.returns-in-18
unfolding row_width
returns-in-18 c = rows c.before.before.before.before c.before.before.before.in-18.is c.before.rows_by-in-18.ensures

pub returns-in-20 : goal.returns-in-20
unfolding row_width
returns-in-20 c = rows c.before.before.before.before c.before.before.before.in-20.is c.before.rows_by-in-20.ensures

pub returns-in-22 : goal.returns-in-22
unfolding row_width
returns-in-22 c = rows c.before.before.before.before c.before.before.before.in-22.is c.before.rows_by-in-22.ensures

pub returns-in_default : goal.returns-in_default
unfolding row_width
returns-in_default c = rows c.before.before.before.before (last c.before.before.before) c.before.rows_by-in_default.ensures
