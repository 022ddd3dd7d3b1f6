-- The points of a run of outputs.
use Rattle.std.specs.Prelude.{List, [], ◌∷◌, ℕ, zero, suc, ℤ}
use Rattle.control.specs.declared.Control.{Control}
use Rattle.control.specs.declared.Plan.{Plan}
use Rattle.positions.specs.Runs.{first_plan, second_plan}

-- the points of n outputs, newest first
unfoldable pub run_points : (Plan → ℤ) → ℕ → Control → ℕ → List ℤ
run_points make F c zero = []
run_points make F c (suc n) = make (second_plan F c n) ∷ make (first_plan F c n) ∷ run_points make F c n
