-- `windows::staging::level_bound` meets its contract: at each of five levels both sides are one number. Assumes nothing.
use mathlib.Core.Path.{◌≡◌, refl}
use Prim.Native.Nat.{ℕ, zero, suc, ◌+◌, ◌*◌, ◌%◌, ◌^◌, ◌≤◌}
use native.Mathlib.Omega.{arith}
use lib.IntN.{pos}
use mir.Syntax.{w32}
use mir.Val.{to_z}
use Rattle.windows.proofs.staging.level_bound.Goals as goal

bound_is : (l : ℕ) → l ≤ 4 → to_z w32 (8388608 * 2 ^ l % 4294967296) ≡ pos (2 ^ (23 + l))
bound_is zero h = refl
bound_is (suc zero) h = refl
bound_is (suc (suc zero)) h = refl
bound_is (suc (suc (suc zero))) h = refl
bound_is (suc (suc (suc (suc zero)))) h = refl
bound_is (suc (suc (suc (suc (suc l))))) h = absurd (omega arith)

pub returns : goal.returns
returns c = bound_is c.args.level c.requires
