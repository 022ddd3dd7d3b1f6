-- The distance of two exact sums.
use Prim.Native.Nat.{ℕ, ◌*◌, ◌^◌, ◌≤◌}
use lib.IntN.{ℤ, nat_abs, ◌-ℤ◌}

-- two exact sums at the distance that is asked for, over their scale
abbrev pub SumsApart : ℕ → ℕ → ℕ → ℤ → ℤ → Type 0
SumsApart T D scale x y = nat_abs (x -ℤ y) ≤ 8 * 2 ^ T * D * scale
