-- `windows::parts::split` meets its contract. The loop's invariant: the words passed are taken apart. Assumes nothing.
use mathlib.Core.Path.{◌≡◌, ap}
use Rattle.std.proofs.Common.{rules}
use Prim.Native.Nat.{◌^◌, ◌≤◌}
use native.Mathlib.Omega.{arith}
use lib.IntN.{ℤ, pos, nat_abs, ◌-ℤ◌, ◌*ℤ◌}
use lib.Signed.{shr_z}
use mir.Syntax.{w16, w32}
use mir.Val.{SFits}
use mir.Facts.{sfits_widen}
use Rattle.arith.specs.Lists.{at}
use Rattle.arith.proofs.Bits.{reads}
use Rattle.arith.proofs.Integers.{abs-*-≤, abs_fits}
use Rattle.arith.proofs.Linear.{linear}
use Rattle.windows.proofs.WordParts.{high_small, low_small, high_narrow, parts_more}
use Rattle.windows.proofs.parts.split.Goals as goal

-- a word's parts fit what they are written to
module _ (x : ℤ) (small : nat_abs x ≤ 2 ^ 27) where
  abbrev y : ℤ
  y = shr_z x 16384

  x_fits : SFits w32 x
  x_fits = abs_fits w32 x (omega (arith, small))

  y_fits : SFits w32 y
  y_fits = abs_fits w32 y (omega (arith, high_small x small))

  multiple_fits : SFits w32 (y *ℤ pos 16384)
  multiple_fits = abs_fits w32 (y *ℤ pos 16384) (omega (arith, abs-*-≤ y (pos 16384) {n = 16384} (high_small x small) (omega arith)))

  low_fits : SFits w16 (x -ℤ y *ℤ pos 16384)
  low_fits = abs_fits w16 (x -ℤ y *ℤ pos 16384) (omega (arith, low_small x small))

  low_fits_wide : SFits w32 (x -ℤ y *ℤ pos 16384)
  low_fits_wide = sfits_widen tt low_fits

pub loop-k-preserved : goal.loop-k-preserved
loop-k-preserved c =
    let k = c.loop-k.k in
    let window = c.args.window.now in
    let x = at window k in
    let small : nat_abs x ≤ 2 ^ 27 = c.requires.words k (omega arith) in
    let high_fits : SFits w16 c.narrow.result = search rules in
    let high_is : c.narrow.result ≡ y x small = high_narrow x small (simp (reads, x_fits x small, y_fits x small) at c.narrow.ensures) in
    let e = simp linear at high_is in
    simp (reads, x_fits x small, y_fits x small, multiple_fits x small, low_fits_wide x small, low_fits x small, high_fits)
    (parts_more window c.loop-k.high c.loop-k.low k c.narrow.result (x -ℤ y x small *ℤ pos 16384) (omega arith) (omega arith) c.loop-k.invariant (simp linear (omega (arith, e)))
    (omega (arith, ap nat_abs high_is, high_small x small)) (omega (arith, low_small x small)))
