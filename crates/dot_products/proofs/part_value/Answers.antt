-- `dot_products::part_value` meets its contract: every number on the way fits 64 bits, and both parts of the sum make it. Assumes nothing.
use mathlib.Core.Path.{◌≡◌, ap, ◌∙◌}
use Prim.Native.Nat.{ℕ, ◌+◌, ◌*◌, ◌^◌, ◌≤◌, ◌<◌}
use native.Mathlib.Nat.{div-add-mod}
use native.Mathlib.Omega.{arith}
use lib.IntN.{ℤ, pos, neg_ℤ, nat_abs, ◌+ℤ◌, ◌-ℤ◌, ◌*ℤ◌}
use lib.Signed.{lt_z_yes, le_z_yes}
use mir.Syntax.{w64}
use mir.Val.{SFits}
use mir.Facts.{sfits_widen}
use Rattle.arith.specs.Floor.{near}
use Rattle.arith.proofs.Bits.{reads}
use Rattle.arith.proofs.Linear.{linear, abs_neg}
use Rattle.arith.proofs.Ring.{products, terms}
use Rattle.arith.proofs.Integers.{abs_fits, abs_triangle, abs-*-≤}
use Rattle.dot_products.specs.Sums.{mixed_value, parts_value}
use Rattle.dot_products.proofs.part_value.Goals as goal
use Rattle.dot_products.proofs.part_value.Goals.{Start}

module _ (c : Start) where
  abbrev h : ℤ
  h = c.args.high1

  abbrev l : ℤ
  l = c.args.low1

  abbrev e : ℕ
  e = c.args.offset

  abbrev high_step : ℤ
  high_step = c.args.high2 -ℤ h

  abbrev low_step : ℤ
  low_step = c.args.low2 -ℤ l

  abbrev both : ℤ
  both = h *ℤ pos 4294967296 +ℤ l *ℤ pos 262144

  abbrev head : ℤ
  head = both +ℤ pos e *ℤ high_step

  abbrev tail : ℤ
  tail = pos e *ℤ low_step

  e_low : e < 2 ^ 63
  e_low = omega (arith, c.requires.offset_low)

  -- ---- sizes

  high_size : nat_abs (h *ℤ pos 4294967296) ≤ 2 ^ 61
  high_size = omega (arith, abs-*-≤ h (pos 4294967296) {n = 4294967296} c.requires.high_size (omega arith))

  low_size : nat_abs (l *ℤ pos 262144) ≤ 2 ^ 48
  low_size = omega (arith, abs-*-≤ l (pos 262144) {m = 2 ^ 30} {n = 262144} (omega (arith, c.requires.low_size)) (omega arith))

  both_size : nat_abs both ≤ 2 ^ 61 + 2 ^ 48
  both_size = omega (arith, high_size, low_size, abs_triangle (h *ℤ pos 4294967296) (l *ℤ pos 262144))

  high_step_size : nat_abs high_step ≤ 2 ^ 30
  high_step_size = omega (arith, abs_triangle c.args.high2 (neg_ℤ h), abs_neg h, c.requires.high_size, c.requires.next_high_size)

  low_step_size : nat_abs low_step ≤ 2147352576
  low_step_size = omega (arith, abs_triangle c.args.low2 (neg_ℤ l), abs_neg l, c.requires.low_size, c.requires.next_low_size)

  product_size : nat_abs (pos e *ℤ high_step) ≤ 2 ^ 62
  product_size = omega (arith, abs-*-≤ (pos e) high_step {m = 2 ^ 32} (omega (arith, c.requires.offset_low)) high_step_size)

  head_size : nat_abs head ≤ 2 ^ 61 + 2 ^ 48 + 2 ^ 62
  head_size = omega (arith, both_size, product_size, abs_triangle both (pos e *ℤ high_step))

  tail_size : nat_abs tail + 2 ^ 49 ≤ 2 ^ 63
  tail_size = omega (arith, abs-*-≤ (pos e) low_step {m = 2 ^ 32} (omega (arith, c.requires.offset_low)) low_step_size)

  -- ---- so they fit

  high_fits : SFits w64 (h *ℤ pos 4294967296)
  high_fits = abs_fits w64 (h *ℤ pos 4294967296) (omega (arith, high_size))

  low_fits : SFits w64 (l *ℤ pos 262144)
  low_fits = abs_fits w64 (l *ℤ pos 262144) (omega (arith, low_size))

  both_fits : SFits w64 both
  both_fits = abs_fits w64 both (omega (arith, both_size))

  high_step_fits : SFits w64 high_step
  high_step_fits = abs_fits w64 high_step (omega (arith, high_step_size))

  low_step_fits : SFits w64 low_step
  low_step_fits = abs_fits w64 low_step (omega (arith, low_step_size))

  product-fits : SFits w64 (pos e *ℤ high_step)
  product-fits = abs_fits w64 (pos e *ℤ high_step) (omega (arith, product_size))

  head_fits : SFits w64 head
  head_fits = abs_fits w64 head (omega (arith, head_size))

  tail_fits : SFits w64 tail
  tail_fits = abs_fits w64 tail (omega (arith, tail_size))

  e_fits : SFits w64 (pos e)
  e_fits = simp linear (omega (arith, e_low))

  sum_is : pos 16384 *ℤ head +ℤ tail ≡ pos (2 ^ 32) *ℤ (h *ℤ pos 16384 +ℤ l) +ℤ pos e *ℤ ((c.args.high2 *ℤ pos 16384 +ℤ c.args.low2) -ℤ (h *ℤ pos 16384 +ℤ l))
  sum_is = law h l c.args.high2 c.args.low2 e
    where
      law : (x y x' y' : ℤ) (n : ℕ) → pos 16384 *ℤ (x *ℤ pos 4294967296 +ℤ y *ℤ pos 262144 +ℤ pos n *ℤ (x' -ℤ x)) +ℤ pos n *ℤ (y' -ℤ y)
          ≡ pos (2 ^ 32) *ℤ (x *ℤ pos 16384 +ℤ y) +ℤ pos n *ℤ ((x' *ℤ pos 16384 +ℤ y') -ℤ (x *ℤ pos 16384 +ℤ y))
      law x y x' y' n = simp products (simp terms (omega arith))

pub overflow_cast-e : goal.overflow_cast-e
overflow_cast-e c = simp linear (omega (arith, e_low c))

pub overflow_cast-h : goal.overflow_cast-h
overflow_cast-h c = simp (reads, c.ranges.high1) (sfits_widen tt c.ranges.high1)

pub overflow_cast-l : goal.overflow_cast-l
overflow_cast-l c = simp (reads, c.ranges.low1) (sfits_widen tt c.ranges.low1)

pub overflow_mul-h : goal.overflow_mul-h
overflow_mul-h c = simp (reads, c.ranges.high1) (high_fits c)

pub overflow_mul-l : goal.overflow_mul-l
overflow_mul-l c = simp (reads, c.ranges.low1) (low_fits c)

pub overflow_add-h : goal.overflow_add-h
overflow_add-h c = simp (reads, c.ranges.high1, c.ranges.low1, high_fits c, low_fits c) (both_fits c)

pub overflow_cast-high2 : goal.overflow_cast-high2
overflow_cast-high2 c = simp (reads, c.ranges.high2) (sfits_widen tt c.ranges.high2)

pub overflow_sub-high2 : goal.overflow_sub-high2
overflow_sub-high2 c = simp (reads, c.ranges.high1, c.ranges.high2) (high_step_fits c)

pub overflow_mul-e : goal.overflow_mul-e
overflow_mul-e c = simp (reads, e_low c, c.ranges.high1, c.ranges.high2, high_step_fits c) (product-fits c)

pub overflow_add-h-2 : goal.overflow_add-h-2
overflow_add-h-2 c =
    simp (reads, e_low c, c.ranges.high1, c.ranges.low1, c.ranges.high2, high_fits c, low_fits c, both_fits c, high_step_fits c, product-fits c) (head_fits c)

pub overflow_cast-low2 : goal.overflow_cast-low2
overflow_cast-low2 c = simp (reads, c.ranges.low2) (sfits_widen tt c.ranges.low2)

pub overflow_sub-low2 : goal.overflow_sub-low2
overflow_sub-low2 c = simp (reads, c.ranges.low1, c.ranges.low2) (low_step_fits c)

pub overflow_mul-e-2 : goal.overflow_mul-e-2
overflow_mul-e-2 c = simp (reads, e_low c, c.ranges.low1, c.ranges.low2, low_step_fits c) (tail_fits c)

pub near_parts-requires : goal.near_parts-requires
near_parts-requires c =
    simp (reads, e_low c, c.ranges.high1, c.ranges.low1, c.ranges.high2, c.ranges.low2, high_fits c, low_fits c, both_fits c, high_step_fits c, low_step_fits c, product-fits c, head_fits c, tail_fits c)
    (record {
      parts_far_from_ends = (omega (arith, head_size c, tail_size c, div-add-mod (nat_abs (tail c)) 16384), tail_size c);
      divisor_bound = omega arith;
      unit_low = lt_z_yes tt;
      unit_high = le_z_yes tt;
      half_low = lt_z_yes tt;
      half_high = le_z_yes tt;
    })

pub returns : goal.returns
unfolding parts_value mixed_value
returns c =
    let s = c.before in
    let fits : SFits w64 c.near_parts.result = record { sfits = c.near_parts.type_inv } in
    let rounded : c.near_parts.result ≡ near (pos 16384 *ℤ head s +ℤ tail s) (16384 * 2 ^ 32) =
    simp (reads, e_low s, s.ranges.high1, s.ranges.low1, s.ranges.high2, s.ranges.low2, high_fits s, low_fits s, both_fits s, high_step_fits s, low_step_fits s, product-fits s, head_fits s, tail_fits s)
    at c.near_parts.ensures in
    simp (reads, fits) (rounded ∙ ap (λ x. near x (16384 * 2 ^ 32)) (sum_is s))
