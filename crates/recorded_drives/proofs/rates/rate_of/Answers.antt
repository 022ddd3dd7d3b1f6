-- `recorded_drives::rates::rate_of` meets its contract: bits that, without their sign, are at most infinity's are no NaN's, and all others
-- are. Assumes nothing.
use Rattle.std.proofs.Common.{◌≡◌, ℕ, ◌%◌, ◌<◌, T, refl, sym, subst, ◌∙◌}
use lib.Dec.{lt→ltb}
use lib.Ieee.{Float, nan, inf, fin, binary32, div, is_nan, of_bits}
use lib.Ieee.Bits.{nan_bits_is, nan_bits_above}
use borrow.Author.Tests.{le-ltb}
use Rattle.recorded_drives.proofs.rates.rate_of.Goals as goal

is_nan_lem : (x : Float) → T (is_nan x) → nan ≡ x
unfolding is_nan
is_nan_lem nan t = refl
is_nan_lem (inf s) t = absurd t
is_nan_lem (fin s m e) t = absurd t

above_infinity : (n : ℕ) → 2139095040 < n % 2147483648 → nan ≡ of_bits binary32 n
above_infinity n h = is_nan_lem _ (subst T (sym (nan_bits_above binary32 n) ∙ nan_bits_is binary32 n) (lt→ltb _ _ h))

pub float_from_bits-result : goal.float_from_bits-result
float_from_bits-result c = simp (nan_bits_above, le-ltb _ _ c.if-bits-le2139095040.true) tt

pub returns : goal.returns
unfolding div of_bits
returns c = above_infinity _ c.if-bits-le2139095040.false
