-- `dot_products::sample_value` meets its contract: every number on the way fits 64 bits, and what is rounded is the words' over 2^12. Assumes nothing.
use mathlib.Core.Path.{◌≡◌, sym, ap, ◌∙◌}
use Prim.Native.Nat.{ℕ, ◌*◌, ◌/◌, ◌^◌, ◌≤◌, ◌<◌}
use native.Mathlib.Omega.{arith}
use lib.IntN.{ℤ, pos, nat_abs, ◌+ℤ◌, ◌-ℤ◌, ◌*ℤ◌}
use lib.Signed.{lt_z_yes, le_z_yes, nat_abs-le}
use mir.Syntax.{w64}
use mir.Val.{SFits}
use mir.Facts.{sfits_widen}
use Rattle.arith.specs.Floor.{near}
use Rattle.arith.proofs.Bits.{reads}
use Rattle.arith.proofs.Floor.{near_scale}
use Rattle.arith.proofs.Linear.{linear}
use Rattle.arith.proofs.Ring.{products, terms}
use Rattle.arith.proofs.Integers.{abs_fits, abs_triangle, abs-*-≤}
use Rattle.dot_products.specs.Sums.{mixed_value}
use Rattle.dot_products.proofs.sample_value.Goals as goal
use Rattle.dot_products.proofs.sample_value.Goals.{Start}

module _ (c : Start) where
  abbrev b : ℤ
  b = c.args.base

  abbrev e : ℕ
  e = c.args.offset / 16

  abbrev step : ℤ
  step = c.args.next -ℤ b

  abbrev whole : ℤ
  whole = b *ℤ pos 268435456 +ℤ pos e *ℤ step

  e_small : e ≤ 2 ^ 28
  e_small = omega (arith, c.requires.0)

  e_low : e < 2 ^ 63
  e_low = omega (arith, e_small)

  base_size : nat_abs (b *ℤ pos 268435456) ≤ 2 ^ 59
  base_size = omega (arith, abs-*-≤ b (pos 268435456) {m = 2 ^ 31} {n = 268435456} (nat_abs-le b c.ranges.base.sfits) (omega arith))

  step_size : nat_abs step ≤ 2 ^ 32
  step_size = simp linear (omega (arith, simp linear at c.ranges.base, simp linear at c.ranges.next))

  product_size : nat_abs (pos e *ℤ step) ≤ 2 ^ 60
  product_size = omega (arith, abs-*-≤ (pos e) step {m = 2 ^ 28} e_small step_size)

  whole_size : nat_abs whole ≤ 2 ^ 62
  whole_size = omega (arith, base_size, product_size, abs_triangle (b *ℤ pos 268435456) (pos e *ℤ step))

  base_fits : SFits w64 (b *ℤ pos 268435456)
  base_fits = abs_fits w64 (b *ℤ pos 268435456) (omega (arith, base_size))

  step_fits : SFits w64 step
  step_fits = abs_fits w64 step (omega (arith, step_size))

  product-fits : SFits w64 (pos e *ℤ step)
  product-fits = abs_fits w64 (pos e *ℤ step) (omega (arith, product_size))

  whole_fits : SFits w64 whole
  whole_fits = abs_fits w64 whole (omega (arith, whole_size))

  sum_is : 16 * e ≡ c.args.offset → pos 4096 *ℤ whole ≡ pos (2 ^ 32) *ℤ (b *ℤ pos 256) +ℤ pos c.args.offset *ℤ (c.args.next *ℤ pos 256 -ℤ b *ℤ pos 256)
  sum_is offset_is = law b c.args.next e ∙ ap (λ n. pos (2 ^ 32) *ℤ (b *ℤ pos 256) +ℤ pos n *ℤ (c.args.next *ℤ pos 256 -ℤ b *ℤ pos 256)) offset_is
    where
      law : (x y : ℤ) (n : ℕ) → pos 4096 *ℤ (x *ℤ pos 268435456 +ℤ pos n *ℤ (y -ℤ x)) ≡ pos (2 ^ 32) *ℤ (x *ℤ pos 256) +ℤ pos (16 * n) *ℤ (y *ℤ pos 256 -ℤ x *ℤ pos 256)
      law x y n = simp products (simp terms (omega arith))

pub overflow_cast-b : goal.overflow_cast-b
overflow_cast-b c = simp (reads, c.ranges.base) (sfits_widen tt c.ranges.base)

pub overflow_mul-b : goal.overflow_mul-b
overflow_mul-b c = simp (reads, c.ranges.base) (base_fits c)

pub overflow_cast-offset : goal.overflow_cast-offset
overflow_cast-offset c = simp linear (omega (arith, e_low c))

pub overflow_cast-next : goal.overflow_cast-next
overflow_cast-next c = simp (reads, c.ranges.next) (sfits_widen tt c.ranges.next)

pub overflow_sub-next : goal.overflow_sub-next
overflow_sub-next c = simp (reads, c.ranges.base, c.ranges.next) (step_fits c)

pub overflow_mul-offset : goal.overflow_mul-offset
overflow_mul-offset c = simp (reads, e_low c, c.ranges.base, c.ranges.next, step_fits c) (product-fits c)

pub overflow_add-b : goal.overflow_add-b
overflow_add-b c = simp (reads, e_low c, c.ranges.base, c.ranges.next, base_fits c, step_fits c, product-fits c) (whole_fits c)

pub near-requires : goal.near-requires
near-requires c =
    simp (reads, e_low c, c.ranges.base, c.ranges.next, base_fits c, step_fits c, product-fits c, whole_fits c) (record { far_from_ends = whole_size c; half_low = lt_z_yes tt; half_high = le_z_yes tt })

pub returns : goal.returns
unfolding mixed_value
returns c =
    let s = c.before in
    let offset_is : 16 * e s ≡ s.args.offset = omega (arith, s.requires.1) in
    let fits : SFits w64 c.near.result = record { sfits = c.near.type_inv } in
    let rounded : c.near.result ≡ near (whole s) (2 ^ 34) =
    simp (reads, e_low s, s.ranges.base, s.ranges.next, base_fits s, step_fits s, product-fits s, whole_fits s) at c.near.ensures in
    simp (reads, fits) (rounded ∙ sym (near_scale (whole s) (2 ^ 34) {c = 4096} (omega arith) (omega arith)) ∙ ap (λ x. near x (16384 * 2 ^ 32)) (sum_is s offset_is))
