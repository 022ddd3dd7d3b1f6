-- The laws of an output's sum: how far apart the sums of two histories are, and the sum around its middle point. Assumes nothing.
use mathlib.Core.Path.{◌≡◌, sym, ap, ◌∙◌}
use mathlib.Core.List.{List}
use Prim.Native.Nat.{ℕ, suc, ◌+◌, ◌-◌, ◌*◌, ◌≤◌, pred}
use native.Mathlib.Nat.{le_trans, mul-le-mul_right}
use native.Mathlib.Omega.{arith}
use lib.IntN.{ℤ, pos, nat_abs, ◌+ℤ◌, ◌-ℤ◌, ◌*ℤ◌}
use lib.ListN.{length}
use Rattle.arith.specs.Lists.{at, word_at}
use Rattle.arith.specs.Sum.{sum, total, sum_around}
use Rattle.arith.proofs.Linear.{linear}
use Rattle.arith.proofs.Ring.{products, terms}
use Rattle.arith.proofs.Sum.{sum_ext, sum_around_lem, sum-abs-*, total_around, sum_linear}
use Rattle.book.specs.Book.{sizes_of, decimation_taps}
use Rattle.book.specs.Check.{tap_sum}
use Rattle.book.proofs.Accepted.{Accepted, decimation_taps-length, decimation_taps-sum}
use Rattle.decimation.specs.Decimation.{output_sum}

-- the weight of the k-th newest point
abbrev weight : List ℤ → ℕ → ℤ
weight b k = at (decimation_taps b) (nat_abs (pos k -ℤ pos (sizes_of b).decimation))

-- how many points an output reads
abbrev reads : List ℤ → ℕ
reads b = 2 * (sizes_of b).decimation + 1

-- two sums are one, over the points taken together
output_sum_linear : (b : List ℤ) (c d : ℤ) (h h' : List ℤ)
    → c *ℤ output_sum b h -ℤ d *ℤ output_sum b h' ≡ sum (reads b) (λ k. weight b k *ℤ (c *ℤ at h k -ℤ d *ℤ at h' k))
unfolding output_sum
output_sum_linear b c d h h' =
    sum_linear (reads b) c d (λ k. weight b k *ℤ at h k) (λ k. weight b k *ℤ at h' k)
    ∙ sum_ext (reads b) (λ k m. together (weight b k) (at h k) (at h' k))
  where
    together : (z x y : ℤ) → c *ℤ (z *ℤ x) -ℤ d *ℤ (z *ℤ y) ≡ z *ℤ (c *ℤ x -ℤ d *ℤ y)
    together z x y = simp products (simp terms (omega arith))

module _ (b : List ℤ) (a : Accepted b) where
  -- each decimation tap but the first is read twice
  weights_sum : total (reads b) (λ k. nat_abs (weight b k)) ≤ 32768
  unfolding tap_sum
  weights_sum =
      let g = decimation_taps b in
      let B = (sizes_of b).decimation in
      let count : pred (length g) ≡ B = omega (arith, decimation_taps-length b a) in
      let taps : nat_abs (at g 0) + 2 * total B (λ k. nat_abs (at g (suc k))) ≤ 32768 = rw count at (decimation_taps-sum b a) in
      omega (arith, total_around B (λ k. nat_abs (at g k)), taps)

  -- of points of at most X
  weighted_bound : (x : ℕ → ℤ) (X : ℕ) → ((k : ℕ) → nat_abs (x k) ≤ X) → nat_abs (sum (reads b) (λ k. weight b k *ℤ x k)) ≤ 32768 * X
  weighted_bound x X h = le_trans (sum-abs-* (reads b) (weight b) x X (λ k m. h k)) (mul-le-mul_right X weights_sum)

  -- of histories whose points are at most X apart
  pub output_sum_apart : (c d : ℤ) (h h' : List ℤ) (X : ℕ) → ((k : ℕ) → nat_abs (c *ℤ at h k -ℤ d *ℤ at h' k) ≤ X)
      → nat_abs (c *ℤ output_sum b h -ℤ d *ℤ output_sum b h') ≤ 32768 * X
  output_sum_apart c d h h' X bound = rw (output_sum_linear b c d h h') (weighted_bound (λ k. c *ℤ at h k -ℤ d *ℤ at h' k) X bound)

-- ---- the sum of an output, around the middle point that it reads

pub output_sum_around : (b h g : List ℤ) → Accepted b → g ≡ decimation_taps b
    → sum_around (pred (length g)) (λ k. at g (nat_abs k) *ℤ word_at h (pos (length g - 1) +ℤ k)) ≡ output_sum b h
unfolding output_sum word_at
output_sum_around b h g a e =
    let B = (sizes_of b).decimation in
    let count : length g ≡ B + 1 = ap length e ∙ decimation_taps-length b a in
    let half : pred (length g) ≡ B = omega arith in
    let middle : length g - 1 ≡ B = omega arith in
    rw (half, middle, ← e)
    (sym (sum_around_lem B (λ k. at g (nat_abs k) *ℤ word_at h (pos B +ℤ k)))
    ∙ sum_ext (2 * B + 1) (λ k l. ap (λ i. at g (nat_abs (pos k -ℤ pos B)) *ℤ word_at h i) (back B k)))
  where
    back : (m k : ℕ) → pos m +ℤ (pos k -ℤ pos m) ≡ pos k
    back m k = simp linear (omega arith)
