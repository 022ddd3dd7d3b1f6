-- The control along outputs one after another. Assumes nothing.
use mathlib.Core.Path.{◌≡◌, ap}
use Prim.Native.Nat.{ℕ, zero, suc, ◌+◌}
use native.Mathlib.Nat.{add-zero, add-suc}
use Rattle.control.specs.declared.Control.{Control}
use Rattle.control.specs.Moves.{move_output}
use Rattle.positions.specs.Runs.{control_after}

pub control_after-+ : (F : ℕ) (c : Control) (m n : ℕ) → control_after F c (m + n) ≡ control_after F (control_after F c m) n
unfolding control_after
control_after-+ F c m zero = rw add-zero
control_after-+ F c m (suc n) = rw add-suc (ap (move_output F) (control_after-+ F c m n))
