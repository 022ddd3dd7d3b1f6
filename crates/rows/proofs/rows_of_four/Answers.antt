-- `rows::rows_of_four` meets its contract: two rows of four words are one of eight. Assumes nothing.
use mathlib.Core.Path.{◌≡◌, refl, subst}
use mathlib.Core.List.{List}
use Prim.Native.Nat.{ℕ, ◌*◌}
use native.Mathlib.Omega.{arith}
use lib.IntN.{ℤ, pos}
use Rattle.arith.specs.Lists.{at}
use Rattle.arith.proofs.Parts.{zeros_every}
use Rattle.rows.specs.Rows.{PhasesOf}
use Rattle.rows.proofs.ImpulseRows.{halves}
use Rattle.rows.proofs.rows_of_four.Goals as goal

pub rows_by-requires : goal.rows_by-requires
rows_by-requires c = c.before.before.requires

pub returns-then-phases-ne0 : goal.returns-then-phases-ne0
returns-then-phases-ne0 c = c.before.rows_by.ensures

pub rows_by-requires-2 : goal.rows_by-requires-2
rows_by-requires-2 c =
    let s = c.before.before in
    record {
      few = omega arith;
      phases_few = omega (arith, s.requires.phases_few);
      wide = omega arith;
      book_room = omega (arith, s.requires.book_room);
      table_room = omega (arith, s.requires.phases_few);
      zeros = zeros_every (λ x. x ≡ pos 0) refl 512;
    }

pub spread-requires : goal.spread-requires
spread-requires c =
    let s = c.before.before.before.before.before.before in
    record { room = (omega (arith, s.requires.phases_few), s.requires.table_room); zeros = s.requires.zeros }

-- m rows of four words, where they are the halves of h rows of eight
both : {source : ℕ → ℤ} {h m : ℕ} {words table : List ℤ} → PhasesOf source 8 8 h words → PhasesOf (at words) 4 8 m table → 2 * h ≡ m → PhasesOf source 4 8 m table
both {source} {table = table} p t e = subst (λ m. PhasesOf source 4 8 m table) e (halves p (rw e t))

pub returns : goal.returns
returns c = both c.rows_by-2.ensures c.spread.ensures (omega arith)
