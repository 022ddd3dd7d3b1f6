-- `positions::glide::rate_at` meets its contract: no number on the way is too large, and the last is not negative. Assumes nothing.
use Prim.Native.Nat.{◌<◌, ◌^◌}
use native.Mathlib.Omega.{arith}
use Rattle.arith.proofs.Bits.{reads}
use Rattle.positions.proofs.Glides.{start_fits, slope_fits, along-fits, here_fits, here_low, here_size, rate_here}
use Rattle.positions.proofs.glide.rate_at.Goals as goal

pub overflow_cast-result-2 : goal.overflow_cast-result-2
overflow_cast-result-2 c =
    let r = c.args.r.along in
    let i = c.args.i in
    let p = c.requires in
    let low : i < 2 ^ 63 = omega (arith, p.0) in
    simp (reads, low, start_fits r i p.0 p.1, slope_fits r i p.0 p.1, along-fits r i p.0 p.1, here_fits r i p.0 p.1) (here_low r i p.0 p.1, omega (arith, here_size r i p.0 p.1))

pub returns : goal.returns
returns c =
    let r = c.args.r.along in
    let i = c.args.i in
    let p = c.requires in
    let low : i < 2 ^ 63 = omega (arith, p.0) in
    simp (reads, low, start_fits r i p.0 p.1, slope_fits r i p.0 p.1, along-fits r i p.0 p.1, here_fits r i p.0 p.1) (rate_here r i p.0 p.1)
