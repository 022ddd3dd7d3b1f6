-- Distances over a scale: nat_abs (pos s *ℤ x -ℤ y) is s times the distance of x from the fraction y / s. Assumes nothing.
use mathlib.Core.Path.{◌≡◌, ap, ◌∙◌}
use mathlib.Core.Bool.{Bool, true, false, cond}
use Prim.Native.Nat.{ℕ, ◌+◌, ◌*◌, ◌-◌, ◌≤◌, ◌<◌}
use native.Mathlib.Nat.{mul_comm, mul-le-mul_left}
use native.Mathlib.Omega.{arith}
use lib.IntN.{ℤ, pos, nat_abs, ◌+ℤ◌, ◌-ℤ◌, ◌*ℤ◌}
use Rattle.arith.specs.Floor.{near}
use Rattle.arith.proofs.Linear.{linear, poly, abs-pos-*}
use Rattle.arith.proofs.Ring.{products, terms}
use Rattle.arith.proofs.Integers.{abs_triangle, *ℤ-assoc}
use Rattle.arith.proofs.Floor.{near_close}

-- a common factor of both comes out
pub apart_multiple : (n s : ℕ) (x y : ℤ) → nat_abs (pos (n * s) *ℤ x -ℤ pos n *ℤ y) ≡ n * nat_abs (pos s *ℤ x -ℤ y)
apart_multiple n s x y =
    let e : pos (n * s) *ℤ x -ℤ pos n *ℤ y ≡ pos n *ℤ (pos s *ℤ x -ℤ y) = simp poly (omega arith) in
    ap nat_abs e ∙ abs-pos-* n (pos s *ℤ x -ℤ y)

-- the same of two scales
pub apart_times : (n s d : ℕ) (x y : ℤ) → nat_abs (pos (n * s) *ℤ x -ℤ pos (n * d) *ℤ y) ≡ n * nat_abs (pos s *ℤ x -ℤ pos d *ℤ y)
apart_times n s d x y = rw (*ℤ-assoc (pos n) (pos d) y) (apart_multiple n s x (pos d *ℤ y))

-- the same of any two numbers that are subtracted
pub apart_factor : (n c d x y : ℤ) → c *ℤ (n *ℤ x) -ℤ d *ℤ (n *ℤ y) ≡ n *ℤ (c *ℤ x -ℤ d *ℤ y)
apart_factor n c d x y = simp products (simp terms (omega arith))

-- by way of a third number, and seen from the other
pub apart_by : (x y z : ℤ) → nat_abs (x -ℤ z) ≤ nat_abs (x -ℤ y) + nat_abs (y -ℤ z)
apart_by x y z = simp linear (omega arith)

pub apart_swap : (x y : ℤ) → nat_abs (x -ℤ y) ≡ nat_abs (y -ℤ x)
apart_swap x y = simp linear (omega arith)

-- rounding moves a / b by at most a half
pub near_scaled : (s b : ℕ) (a : ℤ) → 0 < b → 2 * nat_abs (pos (s * b) *ℤ near a b -ℤ pos s *ℤ a) ≤ s * b
near_scaled s b a h =
    let half : 2 * nat_abs (pos b *ℤ near a b -ℤ a) ≤ b = rw (apart_multiple 2 b (near a b) a) at (near_close a h) in
    omega (arith, apart_multiple s b (near a b) a, mul-le-mul_left s half)

-- so a number near c / s, divided by b and rounded, is near c / (s × b)
pub near_apart : (s b : ℕ) (a c : ℤ) (Y : ℕ) → 0 < b → 2 * nat_abs (pos s *ℤ a -ℤ c) ≤ Y → 2 * nat_abs (pos (s * b) *ℤ near a b -ℤ c) ≤ s * b + Y
near_apart s b a c Y h close = omega (arith, near_scaled s b a h, apart_by (pos (s * b) *ℤ near a b) (pos s *ℤ a) c)

-- ---- a weighted sum of two numbers: how large, and how far from that of two fractions

weighted_size : (c m n : ℕ) (x y : ℤ) (X : ℕ) → c * nat_abs x ≤ X → c * nat_abs y ≤ X → c * nat_abs (pos m *ℤ x +ℤ pos n *ℤ y) ≤ (m + n) * X
weighted_size c m n x y X h k =
    let both : nat_abs (pos m *ℤ x +ℤ pos n *ℤ y) ≤ m * nat_abs x + n * nat_abs y = omega (arith, abs_triangle (pos m *ℤ x) (pos n *ℤ y), abs-pos-* m x, abs-pos-* n y) in
    omega (arith, mul-le-mul_left c both, mul-le-mul_left m h, mul-le-mul_left n k)

weighted_apart : (s m n : ℕ) (x y x' y' : ℤ) (X : ℕ) → 2 * nat_abs (pos s *ℤ x -ℤ x') ≤ X → 2 * nat_abs (pos s *ℤ y -ℤ y') ≤ X
    → 2 * nat_abs (pos s *ℤ (pos m *ℤ x +ℤ pos n *ℤ y) -ℤ (pos m *ℤ x' +ℤ pos n *ℤ y')) ≤ (m + n) * X
weighted_apart s m n x y x' y' X h k =
    let dx = pos s *ℤ x -ℤ x' in
    let dy = pos s *ℤ y -ℤ y' in
    let e : pos s *ℤ (pos m *ℤ x +ℤ pos n *ℤ y) -ℤ (pos m *ℤ x' +ℤ pos n *ℤ y') ≡ pos m *ℤ dx +ℤ pos n *ℤ dy = simp poly (omega arith) in
    rw e (weighted_size 2 m n dx dy X h k)

-- ---- step i of a fade over F points, or no fade (t): x to y, and the fractions x' / s to y' / s over s × F

module _ (F i : ℕ) (inside : i ≤ F) where
  -- the weights add up to F
  weights : F - i + i ≡ F
  weights = omega arith

  -- a mean is no larger, and two means lie no further apart, than what they are made of
  fade_size : (x y : ℤ) (X : ℕ) → nat_abs x ≤ X → nat_abs y ≤ X → (t : Bool) → nat_abs (cond t (pos F *ℤ x) (pos (F - i) *ℤ x +ℤ pos i *ℤ y)) ≤ F * X
  fade_size x y X h k true = rw abs-pos-* (mul-le-mul_left F h)
  fade_size x y X h k false = omega (arith, rw weights at (weighted_size 1 (F - i) i x y X (omega arith) (omega arith)))

  pub fade_apart : (c d x y x' y' : ℤ) (X : ℕ) → nat_abs (c *ℤ x -ℤ d *ℤ x') ≤ X → nat_abs (c *ℤ y -ℤ d *ℤ y') ≤ X → (t : Bool)
      → nat_abs (c *ℤ cond t (pos F *ℤ x) (pos (F - i) *ℤ x +ℤ pos i *ℤ y) -ℤ d *ℤ cond t (pos F *ℤ x') (pos (F - i) *ℤ x' +ℤ pos i *ℤ y')) ≤ F * X
  fade_apart c d x y x' y' X h k t = rw (linear-in t) (fade_size (c *ℤ x -ℤ d *ℤ x') (c *ℤ y -ℤ d *ℤ y') X h k t)
    where
      linear-in : (t : Bool)
          → c *ℤ cond t (pos F *ℤ x) (pos (F - i) *ℤ x +ℤ pos i *ℤ y) -ℤ d *ℤ cond t (pos F *ℤ x') (pos (F - i) *ℤ x' +ℤ pos i *ℤ y')
          ≡ cond t (pos F *ℤ (c *ℤ x -ℤ d *ℤ x')) (pos (F - i) *ℤ (c *ℤ x -ℤ d *ℤ x') +ℤ pos i *ℤ (c *ℤ y -ℤ d *ℤ y'))
      linear-in true = apart_factor (pos F) c d x x'
      linear-in false = simp products (simp terms (omega arith))

  -- a fade's own rounding adds 1 to twice the distance
  pub fade_close : (s : ℕ) (x y x' y' : ℤ) (Z : ℕ) → 0 < F → 2 * nat_abs (pos s *ℤ x -ℤ x') ≤ s * Z → 2 * nat_abs (pos s *ℤ y -ℤ y') ≤ s * Z
      → (t : Bool) → 2 * nat_abs (pos (s * F) *ℤ cond t x (near (pos (F - i) *ℤ x +ℤ pos i *ℤ y) F) -ℤ cond t (pos F *ℤ x') (pos (F - i) *ℤ x' +ℤ pos i *ℤ y')) ≤ s * F * (1 + Z)
  fade_close s x y x' y' Z some h k true = rw (mul_comm s F) (omega (arith, apart_multiple F s x x', mul-le-mul_left F h))
  fade_close s x y x' y' Z some h k false =
      let mean = rw weights at (weighted_apart s (F - i) i x y x' y' (s * Z) h k) in
      omega (arith, near_apart s F (pos (F - i) *ℤ x +ℤ pos i *ℤ y) (pos (F - i) *ℤ x' +ℤ pos i *ℤ y') (F * (s * Z)) some mean)
