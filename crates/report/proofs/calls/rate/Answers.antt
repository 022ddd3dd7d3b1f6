-- `report::calls::rate` meets its contract: neither the cast nor the product rounds. Assumes nothing.
use mathlib.Core.Path.{◌≡◌, refl, ap, ◌∙◌}
use Prim.Native.Nat.{ℕ, zero, suc, ◌≤◌, min}
use native.Mathlib.Nat.{min-le_right}
use native.Mathlib.Omega.{arith}
use lib.Ieee.{of_bits, mul, of_int, round, binary32}
use lib.IntN.{pos}
use Rattle.test_setting.proofs.Rates.{reciprocal, fraction_made}
use Rattle.report.specs.Report.{rate}
use Rattle.report.proofs.calls.rate.Goals as goal

made : (n : ℕ) → n ≤ 8192 → mul binary32 (of_int binary32 (pos n)) (reciprocal 7) ≡ rate n
unfolding mul of_int round
made zero h = refl
made (suc n) h = fraction_made (suc n) 7 (omega arith) (omega arith)

pub returns : goal.returns
unfolding of_bits
returns c = ap (λ m. mul binary32 (of_int binary32 (pos m)) (reciprocal 7)) c.min.ensures ∙ made (min c.args.a 8192) (min-le_right c.args.a 8192)
