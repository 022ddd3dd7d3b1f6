-- `refusals::rate_wrong` meets its contract: 2^(28 + T) is below 2^64, so that the shift loses nothing. Assumes nothing.
use mathlib.Core.Path.{◌≡◌, ap, ◌∙◌}
use Prim.Native.Nat.{◌+◌, ◌*◌, ◌^◌, ◌%◌, ◌≤◌}
use native.Mathlib.Nat.{one-mul}
use native.Mathlib.Omega.{arith}
use borrow.Author.Tests.{le-ltb}
use lib.Dec.{leb}
use lib.Pow.{shl_exact}
use Rattle.arith.proofs.Tests.{tests}
use Rattle.refusals.specs.Refusals.{rate_wrong}
use Rattle.refusals.proofs.rate_wrong.Goals as goal

pub returns-then-rate-lt8388608 : goal.returns-then-rate-lt8388608
unfolding rate_wrong
returns-then-rate-lt8388608 c = search tests

pub returns-else-rate-lt8388608 : goal.returns-else-rate-lt8388608
unfolding rate_wrong
returns-else-rate-lt8388608 c =
    let a = c.args in
    let n = 28 + a.top in
    let room : 1 + n ≤ 64 = omega arith in
    let shifted : 1 * 2 ^ n % 2 ^ 64 ≡ 2 ^ n = shl_exact 1 n 64 (omega arith) room ∙ one-mul (2 ^ n) in
    simp (le-ltb _ _ c.if-rate-lt8388608.false) (ap (λ m. leb m a.rate) shifted)
