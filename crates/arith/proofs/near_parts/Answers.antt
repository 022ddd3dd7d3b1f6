-- `arith::near_parts` meets its contract: the numbers on the way fit, and the law `near_parts` says what the last division gives. Assumes
-- nothing.
use mathlib.Core.Path.{◌≡◌, refl, sym, ap, ap₂, subst, ◌∙◌}
use native.Mathlib.Omega.{arith}
use Prim.Native.Nat.{ℕ, ◌+◌, ◌*◌, ◌/◌, ◌^◌, ◌≤◌, ◌<◌}
use lib.IntN.{ℤ, pos, nat_abs, ◌+ℤ◌, ◌-ℤ◌, ◌*ℤ◌, +ℤ_comm}
use lib.Signed.{◌≤ℤ◌, lt_z_yes}
use mir.Syntax.{w64}
use mir.Val.{SFits}
use Rattle.arith.specs.Floor.{floor_div}
use Rattle.arith.proofs.Bits.{reads}
use Rattle.arith.proofs.Linear.{linear, signed, abs-*}
use Rattle.arith.proofs.Integers.{<ℤ-≤ℤ, abs-≤, abs_above, abs_triangle, abs_fits}
use Rattle.arith.proofs.Floor.{rest_euclid}
use Rattle.arith.proofs.Rounding.{odd_of, odd_small, part_small, nearly_of, raised_of, raised_small, near_parts}
use Rattle.arith.proofs.near_parts.Goals as goal
use Rattle.arith.proofs.near_parts.Goals.{After-rem_euclid-odd, After-floor_shift, After-floor_shift-3, Start}

module _ (s : Start) where
  abbrev high : ℤ
  high = s.args.high

  abbrev low : ℤ
  low = s.args.low

  abbrev unit : ℤ
  unit = s.args.unit

  abbrev half : ℤ
  half = s.args.half

  abbrev u : ℕ
  u = nat_abs unit

  abbrev h : ℕ
  h = nat_abs half

  u_some : 0 < u
  u_some = simp linear (omega signed)

  h_some : 0 < h
  h_some = simp linear (omega signed)

  h_high : h ≤ 2 ^ 33
  h_high = abs-≤ half (s.requires.half_high, simp linear (omega signed))

  twice_fits : SFits w64 (pos 2 *ℤ half)
  twice_fits = simp linear (omega signed)

  product_is : half *ℤ unit ≡ pos (h * u)
  product_is = ap₂ (λ x y. x *ℤ y) (abs_above (<ℤ-≤ℤ s.requires.half_low)) (abs_above (<ℤ-≤ℤ s.requires.unit_low))

  product_small : nat_abs (half *ℤ unit) ≤ 2 ^ 48
  product_small = omega (arith, ap nat_abs product_is, s.requires.divisor_bound)

  product-fits : SFits w64 (half *ℤ unit)
  product-fits = abs_fits w64 (half *ℤ unit) (omega (arith, product_small))

  -- the quotient whose lowest bit decides
  abbrev n : ℤ
  n = floor_div (high +ℤ floor_div low u) (2 * h)

-- ---- the lowest bit
module _ (c : After-floor_shift) where
  abbrev part : ℤ
  part = c.floor_shift.result

  part_fits : SFits w64 part
  part_fits = record { sfits = c.floor_shift.type_inv }

  part_is : part ≡ floor_div (low c.before) (u c.before)
  part_is = simp (reads, c.before.ranges.low, c.before.ranges.unit) at c.floor_shift.ensures

  whole_small : nat_abs (high c.before +ℤ part) + 2 ^ 34 ≤ 2 ^ 63
  whole_small =
      let s = c.before in
      let small : nat_abs part ≤ nat_abs (low s) / u s + 1 = rw part_is (part_small (low s) (u_some s)) in
      omega (arith, small, s.requires.parts_far_from_ends.0, abs_triangle (high s) part)

  whole_fits : SFits w64 (high c.before +ℤ part)
  whole_fits = abs_fits w64 (high c.before +ℤ part) (omega (arith, whole_small))

pub overflow_add-high : goal.overflow_add-high
overflow_add-high c = simp (reads, c.before.ranges.high, part_fits c) (whole_fits c)

pub floor_shift-requires-2-clause-far_from_ends : goal.floor_shift-requires-2-clause-far_from_ends
floor_shift-requires-2-clause-far_from_ends c = simp (reads, c.before.ranges.high, part_fits c, whole_fits c) (whole_small c)

-- ---- the raised lower part
module _ (c : After-rem_euclid-odd) where
  abbrev start : Start
  start = c.before.before.before

  abbrev odd : ℤ
  odd = c.rem_euclid-odd.result

  odd_fits : SFits w64 odd
  odd_fits = record { sfits = c.rem_euclid-odd.type_inv }

  odd_is : odd ≡ odd_of (n start)
  odd_is =
      let first = c.before.before in
      let q = c.before.floor_shift-2 in
      let q_fits : SFits w64 q.result = record { sfits = q.type_inv } in
      let quotient : q.result ≡ floor_div (high start +ℤ part first) (2 * h start) =
      simp (reads, start.ranges.high, start.ranges.half, part_fits first, whole_fits first, twice_fits start, abs-*) at q.ensures in
      (simp (reads, q_fits) at c.rem_euclid-odd.ensures.value) ∙ rest_euclid q.result {b = pos 2} (lt_z_yes tt) ∙ ap odd_of (quotient ∙ ap (λ x. floor_div (high start +ℤ x) (2 * h start)) (part_is first))

  odd_range : (pos 0 ≤ℤ odd) × (odd ≤ℤ pos 1)
  odd_range = rw odd_is (odd_small (n start))

  abbrev nearly : ℤ
  nearly = nearly_of (half start) (unit start) odd

  abbrev raised : ℤ
  raised = raised_of (low start) nearly odd

  raised_is : raised ≡ low start +ℤ (pos (h start * u start) -ℤ pos 1) +ℤ odd_of (n start)
  raised_is =
      let sum : raised ≡ odd +ℤ (low start +ℤ (half start *ℤ unit start -ℤ pos 1)) = refl in
      sum ∙ +ℤ_comm odd (low start +ℤ (half start *ℤ unit start -ℤ pos 1))
      ∙ ap₂ (λ p o. low start +ℤ (p -ℤ pos 1) +ℤ o) (product_is start) odd_is

  nearly_fits : SFits w64 nearly
  nearly_fits = simp linear (omega (signed, simp linear at (product_small start), simp linear at odd_range))

  added_fits : SFits w64 (low start +ℤ nearly)
  added_fits = simp linear (omega (signed, simp linear at (product_small start), simp linear at start.requires.parts_far_from_ends.1, simp linear at odd_range))

  small : nat_abs raised + 2 ^ 34 ≤ 2 ^ 63
  small = simp linear (omega (signed, simp linear at (product_small start), simp linear at start.requires.parts_far_from_ends.1, simp linear at odd_range))

  raised_fits : SFits w64 raised
  raised_fits = abs_fits w64 raised (omega (arith, small))

pub overflow_mul-raised : goal.overflow_mul-raised
overflow_mul-raised c = let s = start c in simp (reads, s.ranges.half, s.ranges.unit) (product-fits s)

pub overflow_sub-raised : goal.overflow_sub-raised
overflow_sub-raised c = let s = start c in simp (reads, s.ranges.half, s.ranges.unit, product-fits s, odd_fits c) (nearly_fits c)

pub overflow_add-raised : goal.overflow_add-raised
overflow_add-raised c = let s = start c in simp (reads, s.ranges.low, s.ranges.half, s.ranges.unit, product-fits s, odd_fits c, nearly_fits c) (added_fits c)

pub overflow_add-raised-2 : goal.overflow_add-raised-2
overflow_add-raised-2 c =
    let s = start c in
    simp (reads, s.ranges.low, s.ranges.half, s.ranges.unit, product-fits s, nearly_fits c, added_fits c, odd_fits c) (raised_fits c)

pub floor_shift-requires-3-clause-far_from_ends : goal.floor_shift-requires-3-clause-far_from_ends
floor_shift-requires-3-clause-far_from_ends c =
    let s = start c in
    simp (reads, s.ranges.low, s.ranges.half, s.ranges.unit, product-fits s, nearly_fits c, added_fits c, odd_fits c, raised_fits c) (small c)

-- ---- the result
module _ (c : After-floor_shift-3) where
  abbrev e : After-rem_euclid-odd
  e = c.before

  abbrev carried : ℤ
  carried = c.floor_shift-3.result

  carried_fits : SFits w64 carried
  carried_fits = record { sfits = c.floor_shift-3.type_inv }

  carried_is : carried ≡ floor_div (low (start e) +ℤ (pos (h (start e) * u (start e)) -ℤ pos 1) +ℤ odd_of (n (start e))) (u (start e))
  carried_is =
      let s = start e in
      let quotient : carried ≡ floor_div (raised e) (u s) =
      simp (reads, s.ranges.low, s.ranges.half, s.ranges.unit, product-fits s, nearly_fits e, added_fits e, odd_fits e, raised_fits e) at c.floor_shift-3.ensures in
      quotient ∙ ap (λ x. floor_div x (u s)) (raised_is e)

  sum_small : nat_abs (carried +ℤ high (start e)) + 2 ^ 34 ≤ 2 ^ 63
  sum_small =
      let s = start e in
      let part : nat_abs carried ≤ nat_abs (low s) / u s + 1 + h s = subst (λ x. nat_abs x ≤ nat_abs (low s) / u s + 1 + h s) (sym carried_is) (raised_small (low s) (u_some s) (h s) (n s)) in
      omega (arith, part, h_high s, s.requires.parts_far_from_ends.0, abs_triangle carried (high s))

  sum_fits : SFits w64 (carried +ℤ high (start e))
  sum_fits = abs_fits w64 (carried +ℤ high (start e)) (omega (arith, sum_small))

pub overflow_add-floor_shift : goal.overflow_add-floor_shift
overflow_add-floor_shift c = simp (reads, (start (e c)).ranges.high, carried_fits c) (sum_fits c)

pub floor_shift-requires-4-clause-far_from_ends : goal.floor_shift-requires-4-clause-far_from_ends
floor_shift-requires-4-clause-far_from_ends c = simp (reads, (start (e c)).ranges.high, carried_fits c, sum_fits c) (sum_small c)

pub returns : goal.returns
returns c =
    let b = c.before in
    let s = start (e b) in
    let fits : SFits w64 c.floor_shift-4.result = record { sfits = c.floor_shift-4.type_inv } in
    let quotient : c.floor_shift-4.result ≡ floor_div (carried b +ℤ high s) (2 * h s) =
    simp (reads, s.ranges.high, s.ranges.half, carried_fits b, sum_fits b, twice_fits s, abs-*) at c.floor_shift-4.ensures in
    simp (reads, fits) (quotient ∙ ap (λ x. floor_div x (2 * h s)) (+ℤ_comm (carried b) (high s)) ∙ ap (λ x. floor_div (high s +ℤ x) (2 * h s)) (carried_is b) ∙ near_parts (high s) (low s) (u_some s) (h_some s))
