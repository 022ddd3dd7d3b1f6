-- `levels::writer::first_level` meets its contract. The loop's invariant: the store is as it was, with the first i words of level 0 written at its
-- front, and the first i samples lie in their range. Assumes nothing.
use mathlib.Core.Path.{◌≡◌}
use Prim.Native.Nat.{ℕ, ◌^◌, ◌≤◌, ◌<◌}
use lib.IntN.{nat_abs}
use lib.Seq.{paste}
use Rattle.arith.specs.Lists.{at}
use Rattle.levels.specs.Levels.{first_level}
use Rattle.levels.proofs.writer.first_level.Given as goal

abbrev pub invariant-loop-i : goal.invariant-loop-i
invariant-loop-i l = (l.store ≡ paste l.initial.store 0 (first_level l.samples) l.i) × ((k : ℕ) → k < l.i → nat_abs (at l.samples k) ≤ 2 ^ 15)
