-- The laws of a block's multiply count: from its level values, its bound, what it is without fades, and that it adds up. Assumes nothing.
use mathlib.Core.Bool.{Bool, true, false, cond}
use mathlib.Core.Path.{◌≡◌, refl, ap, ap₂, ◌∙◌}
use Prim.Native.Nat.{ℕ, zero, suc, ◌+◌, ◌*◌, ◌≤◌}
use native.Mathlib.Nat.{add-zero, add-suc, mul-le-mul_right}
use native.Mathlib.Omega.{arith}
use lib.Dec.{eqb}
use Rattle.book.specs.declared.Sizes.{Sizes}
use Rattle.control.specs.declared.Control.{Control}
use Rattle.positions.specs.Runs.{control_after, first_plan, second_plan}
use Rattle.positions.proofs.Runs.{control_after-+}
use Rattle.multiplies.specs.Multiplies.{values_made, point_multiplies, output_multiplies, multiplies, most_multiplies, steady_multiplies, WithoutFades}
use Rattle.multiplies.specs.Inner.{run_values}

-- ---- level values

pub made_high : (i : ℕ) → values_made i ≤ 2
unfolding values_made
made_high i = go (eqb i 0)
  where
    go : (t : Bool) → cond t 1 2 ≤ 2
    go true = omega arith
    go false = omega arith

module _ (F : ℕ) (c : Control) where
  -- an output makes four at most
  pub values_high : (n : ℕ) → run_values F c n ≤ 4 * n
  unfolding run_values
  values_high zero = omega arith
  values_high (suc n) = omega (arith, values_high n, made_high (first_plan F c n).step, made_high (second_plan F c n).step)

  -- and two without a fade
  pub values_steady : (n : ℕ) → WithoutFades F c n → run_values F c n ≡ 2 * n
  unfolding run_values values_made
  values_steady zero h = refl
  values_steady (suc n) h =
      let x = h n (omega arith) in
      let rest = values_steady n (λ k l. h k (omega arith)) in
      rw (x.0, x.1) (omega (arith, rest))

  pub values-+ : (m n : ℕ) → run_values F c (m + n) ≡ run_values F c m + run_values F (control_after F c m) n
  unfolding run_values
  values-+ m zero = rw (add-zero, add-zero)
  values-+ m (suc n) = rw (add-suc, control_after-+ F c m n) (omega (arith, values-+ m n))

-- ---- multiplies

module _ (s : Sizes) (c : Control) where
  -- 2N for each level value, and 2B + 1 for each output
  pub by_values : (n : ℕ) → multiplies s c n ≡ run_values s.fade c n * (2 * s.taps) + n * (2 * s.decimation + 1)
  unfolding multiplies output_multiplies point_multiplies run_values
  by_values zero = omega arith
  by_values (suc n) = omega (arith, by_values n)

  -- as code works it out, from numbers that are these
  pub block_is : {values taps outputs decimation : ℕ} (n : ℕ) → values ≡ run_values s.fade c n → taps ≡ s.taps → outputs ≡ n → decimation ≡ s.decimation
      → values * (2 * taps) + outputs * (2 * decimation + 1) ≡ multiplies s c n
  block_is n values taps outputs decimation = rw (values, taps, outputs, decimation, by_values n)

  -- it never exceeds outputs × (8N + 2B + 1)
  pub bounded : (n : ℕ) → multiplies s c n ≤ most_multiplies s n
  bounded n = omega (arith, by_values n, mul-le-mul_right (2 * s.taps) (values_high s.fade c n))

  -- a block without fades has exactly outputs × (4N + 2B + 1)
  pub steady : (n : ℕ) → WithoutFades s.fade c n → multiplies s c n ≡ steady_multiplies s n
  steady n h = omega (arith, by_values n, ap (λ v. v * (2 * s.taps)) (values_steady s.fade c n h))

-- the count of a block that is cut in two is the sum of the parts
pub multiplies-+ : (s : Sizes) (c : Control) (m n : ℕ) → multiplies s c (m + n) ≡ multiplies s c m + multiplies s (control_after s.fade c m) n
multiplies-+ s c m n =
    let later = control_after s.fade c m in
    let parts = ap (λ v. v * (2 * s.taps)) (values-+ s.fade c m n) in
    omega (arith, by_values s c (m + n), by_values s c m, by_values s later n, parts)

-- N = 12, B = 3: the 55 an output of source document 002
pub steady_55 : (s : Sizes) (c : Control) (n : ℕ) → s.taps ≡ 12 → s.decimation ≡ 3 → WithoutFades s.fade c n → multiplies s c n ≡ n * 55
steady_55 s c n e f h = steady s c n h ∙ ap₂ (λ N B. n * (4 * N + 2 * B + 1)) e f
