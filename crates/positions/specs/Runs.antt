-- A run of outputs: the control along it, and the plans of its points.
use Rattle.std.specs.Prelude.{cond, ℕ, zero, suc, ◌+◌, eqb}
use Rattle.control.specs.declared.Control.{Control}
use Rattle.control.specs.declared.Plan.{Plan}
use Rattle.control.specs.Moves.{move_glide, point_plan, move_point, move_output}

-- the control after n outputs
unfoldable pub control_after : ℕ → Control → ℕ → Control
control_after F c zero = c
control_after F c (suc n) = move_output F (control_after F c n)

-- the plans of the two points of the output after n
abbrev pub first_plan : ℕ → Control → ℕ → Plan
first_plan F c n = point_plan (move_glide (control_after F c n))

abbrev pub second_plan : ℕ → Control → ℕ → Plan
second_plan F c n = point_plan (move_point F (move_glide (control_after F c n)))

-- the plan of point k of a run, of which p is the first point's: without a fade i stays 0, and in one it grows by 1 with each point
abbrev pub run_plan : Plan → ℕ → ℕ → Plan
run_plan p k P = record { old = p.old; new = p.new; step = cond (eqb p.step 0) 0 (p.step + k); position = P }
