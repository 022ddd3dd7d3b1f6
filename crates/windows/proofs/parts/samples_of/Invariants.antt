-- `windows::parts::samples_of` meets its contract. The loop's invariant: where no misses are counted, the words passed are samples. Assumes nothing.
use mathlib.Core.Path.{◌≡◌}
use Prim.Native.Nat.{◌≤◌}
use Rattle.windows.specs.Parts.{SamplesOf}
use Rattle.windows.proofs.parts.samples_of.Given as goal

abbrev pub invariant-loop-k : goal.invariant-loop-k
invariant-loop-k l = (l.misses ≤ l.k) × (l.misses ≡ 0 → SamplesOf l.window l.k l.first l.second)
