-- Limiting two numbers brings them no further apart. Assumes nothing.
use mathlib.Core.Path.{◌≡◌, refl}
use mathlib.Core.Bool.{Bool, true, false, cond}
use Prim.Native.Nat.{ℕ, ◌≤◌, ◌<◌}
use native.Mathlib.Omega.{arith}
use native.Mathlib.Nat.{mul-le-mul_right}
use lib.IntN.{ℤ, pos, negsuc, nat_abs, ◌-ℤ◌, ◌*ℤ◌, *ℤ_comm}
use lib.Signed.{lt_z, le_z_yes, ◌≤ℤ◌}
use Rattle.arith.proofs.Linear.{linear}
use Rattle.arith.proofs.Integers.{*ℤ-≤ℤ-pos}
use Rattle.arith.specs.Limit.{limit}

-- scaling both sides does not change a test
scaled_test : (s : ℕ) (x y : ℤ) → 0 < s → lt_z (pos s *ℤ x) (pos s *ℤ y) ≡ lt_z x y
scaled_test s x y h = go (lt_z x y) refl
  where
    go : (t : Bool) → lt_z x y ≡ t → lt_z (pos s *ℤ x) (pos s *ℤ y) ≡ t
    go true e = simp linear (omega (arith, mul-le-mul_right s (simp linear at e)))
    go false e = simp linear (omega (arith, mul-le-mul_right s (simp linear at e)))

-- so that a limited number, scaled, is the scaled number limited by the scaled bounds
pub limit_scaled : (s : ℕ) (lo hi x : ℤ) → 0 < s → lo ≤ℤ hi → pos s *ℤ limit lo hi x ≡ limit (lo *ℤ pos s) (hi *ℤ pos s) (pos s *ℤ x)
unfolding limit
limit_scaled s lo hi x h l = rw (*ℤ_comm lo (pos s), *ℤ_comm hi (pos s), scaled_test s x lo h, scaled_test s hi x h) (go (lt_z x lo) (lt_z hi x))
  where
    go : (t u : Bool) → pos s *ℤ cond t lo (cond u hi x) ≡ cond t (pos s *ℤ lo) (cond u (pos s *ℤ hi) (pos s *ℤ x))
    go true u = refl
    go false true = refl
    go false false = refl

-- by where each of the two numbers lies: below, above or between the bounds
limit_apart : (lo hi x y : ℤ) → lo ≤ℤ hi → nat_abs (limit lo hi x -ℤ limit lo hi y) ≤ nat_abs (x -ℤ y)
unfolding limit
limit_apart lo hi x y h = go (lt_z x lo) (lt_z hi x) (lt_z y lo) (lt_z hi y) refl refl refl refl
  where
    go : (s t s' t' : Bool) → lt_z x lo ≡ s → lt_z hi x ≡ t → lt_z y lo ≡ s' → lt_z hi y ≡ t' → nat_abs (cond s lo (cond t hi x) -ℤ cond s' lo (cond t' hi y)) ≤ nat_abs (x -ℤ y)
    go true t true t' a b c d = simp linear (omega arith)
    go true t false true a b c d = simp linear (omega (arith, simp linear at h, simp linear at a, simp linear at d))
    go true t false false a b c d = simp linear (omega (arith, simp linear at a, simp linear at c))
    go false true true t' a b c d = simp linear (omega (arith, simp linear at h, simp linear at b, simp linear at c))
    go false true false true a b c d = simp linear (omega arith)
    go false true false false a b c d = simp linear (omega (arith, simp linear at b, simp linear at d))
    go false false true t' a b c d = simp linear (omega (arith, simp linear at a, simp linear at c))
    go false false false true a b c d = simp linear (omega (arith, simp linear at b, simp linear at d))
    go false false false false a b c d = simp linear (omega arith)

-- the same of two output sums over a scale, limited to 16 bits
pub limit16_apart : (s : ℕ) (x y : ℤ)
    → nat_abs (limit (negsuc 32767 *ℤ pos s) (pos 32767 *ℤ pos s) x -ℤ limit (negsuc 32767 *ℤ pos s) (pos 32767 *ℤ pos s) y) ≤ nat_abs (x -ℤ y)
limit16_apart s x y = limit_apart (negsuc 32767 *ℤ pos s) (pos 32767 *ℤ pos s) x y (*ℤ-≤ℤ-pos {a = negsuc 32767} {b = pos 32767} s (le_z_yes tt))
