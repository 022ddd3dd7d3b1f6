-- Definitions that only inner functions' contracts cite: no rule of the documents, but a step of the code that computes one.
use Rattle.std.specs.Prelude.{ℕ, zero, suc, ◌+◌}
use Rattle.control.specs.declared.Control.{Control}
use Rattle.positions.specs.Runs.{first_plan, second_plan}
use Rattle.multiplies.specs.Multiplies.{values_made}

-- the level values of n outputs' points
unfoldable pub run_values : ℕ → Control → ℕ → ℕ
run_values F c zero = 0
run_values F c (suc n) = run_values F c n + (values_made (first_plan F c n).step + values_made (second_plan F c n).step)
