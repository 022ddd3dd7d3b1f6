-- Definitions that only inner functions' contracts cite: no rule of document 01, but a step of the code that computes one.
use Rattle.std.specs.Prelude.{ℕ, ◌-◌, ℤ, pos, ◌+ℤ◌, ◌*ℤ◌}
use Rattle.arith.specs.Floor.{near}

-- the mean of an old and a new value at step i of a fade of F points
unfoldable pub faded : ℕ → ℕ → ℤ → ℤ → ℤ
faded F i old new = near (pos (F - i) *ℤ old +ℤ pos i *ℤ new) F
