-- `levels::writer::write_header` meets its contract. The loop's invariant: the store is as it was, with the first j lengths written from place 2
-- on, and `length` is that of level j. T and S are written in front of them. Assumes nothing.
use mathlib.Core.List.{List}
use mathlib.Core.Path.{◌≡◌}
use Prim.Native.Nat.{ℕ, suc}
use lib.IntN.{ℤ, pos}
use lib.Seq.{paste}
use Rattle.arith.specs.Lists.{tabulate}
use Rattle.store.specs.Sizes.{level_length}
use Rattle.levels.proofs.writer.write_header.Given as goal

-- the lengths of levels 0..T
abbrev pub lengths_of : ℕ → ℕ → List ℤ
lengths_of S T = tabulate (suc T) (λ j. pos (level_length S j))

abbrev pub invariant-loop-level : goal.invariant-loop-level
invariant-loop-level l = (l.length ≡ level_length l.recorded l.level) × (l.store ≡ paste l.initial.store 2 (lengths_of l.recorded l.top) l.level)
