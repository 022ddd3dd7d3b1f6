-- `test_hum::wrapping_mul` meets its contract: the product of two 32-bit numbers fits 64 bits. Assumes nothing.
use Rattle.std.proofs.Common.{◌≤◌, mul-le-mul, arith}
use Rattle.test_hum.proofs.wrapping_mul.Goals as goal

pub overflow_mul-result : goal.overflow_mul-result
overflow_mul-result c =
    let a : c.args.a ≤ 4294967295 = omega arith in
    let b : c.args.b ≤ 4294967295 = omega arith in
    omega (arith, mul-le-mul a b)
