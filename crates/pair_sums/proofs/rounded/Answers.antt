-- `pair_sums::rounded` meets its contract: the law `near_parts`, with shifts for divisions. Assumes nothing.
use Rattle.std.proofs.Common.{◌≡◌, ap, ◌∙◌, ℕ, ◌+◌, ◌*◌, ◌%◌, ◌^◌, ◌<◌, ◌≤◌, ℤ, pos, nat_abs, ◌+ℤ◌, ◌-ℤ◌, ◌*ℤ◌, arith, pow_pos, pow_mono, le_refl}
use native.Mathlib.Nat.{mul-le-mul}
use lib.Signed.{shr_z}
use mir.Syntax.{w32}
use mir.Val.{SFits, to_z}
use mir.Facts.{to_z_pos}
use Rattle.arith.specs.Floor.{floor_div, near}
use Rattle.arith.proofs.Bits.{reads}
use Rattle.arith.proofs.Floor.{floor_bound, floor_fits}
use Rattle.arith.proofs.Integers.{abs_triangle, abs_fits}
use Rattle.arith.proofs.Linear.{linear}
use Rattle.arith.proofs.Rounding.{odd_of, odd_small, near_parts}
use Rattle.pair_sums.proofs.Pairs.{shift-floor}
use Rattle.pair_sums.proofs.rounded.Goals as goal

shift_fits : (x : ℤ) (m : ℕ) → SFits w32 x → SFits w32 (shr_z x m)
shift_fits x m f = rw (shift-floor x m) (floor_fits w32 x m f)

-- a shift makes no number larger
shift_small : (x : ℤ) {m : ℕ} → 0 < m → (b : ℕ) → nat_abs x ≤ b → nat_abs (shr_z x m) ≤ b
shift_small x {m} k b l = rw (shift-floor x m) (floor_bound x k b (omega (arith, mul-le-mul k (le_refl b))))

half_small : (x : ℤ) (b : ℕ) → nat_abs x ≤ 2 * b → nat_abs (shr_z x 2) ≤ b
half_small x b l = rw (shift-floor x 2) (floor_bound x (omega arith) b l)

module _ (high low : ℤ) (u : ℕ) (some : 0 < u) (few : u ≤ 8192) (high_small : nat_abs high ≤ 2 ^ 29) (low_small : nat_abs low ≤ 2 ^ 30) where
  -- one less than the half of what is rounded to
  abbrev nearly_half : ℤ
  nearly_half = pos u -ℤ pos 1

  -- the quotient whose lowest bit decides
  abbrev whole : ℤ
  whole = high +ℤ shr_z low u

  abbrev q : ℤ
  q = shr_z whole 2

  abbrev odd : ℤ
  odd = q -ℤ pos 2 *ℤ shr_z q 2

  abbrev risen : ℤ
  risen = low +ℤ nearly_half +ℤ odd

  abbrev sum : ℤ
  sum = high +ℤ shr_z risen u

  part_small : nat_abs (shr_z low u) ≤ 2 ^ 30
  part_small = shift_small low some (2 ^ 30) low_small

  part_fits : SFits w32 (shr_z low u)
  part_fits = abs_fits w32 (shr_z low u) (omega (arith, part_small))

  whole_small : nat_abs whole ≤ 2 ^ 29 + 2 ^ 30
  whole_small = omega (arith, abs_triangle high (shr_z low u), high_small, part_small)

  whole_fits : SFits w32 whole
  whole_fits = abs_fits w32 whole (omega (arith, whole_small))

  q_small : nat_abs q ≤ 2 ^ 30
  q_small = half_small whole (2 ^ 30) (omega (arith, whole_small))

  q_fits : SFits w32 q
  q_fits = abs_fits w32 q (omega (arith, q_small))

  q_half_small : nat_abs (shr_z q 2) ≤ 2 ^ 29
  q_half_small = half_small q (2 ^ 29) (omega (arith, q_small))

  half_fits : SFits w32 (shr_z q 2)
  half_fits = abs_fits w32 (shr_z q 2) (omega (arith, q_half_small))

  twice_fits : SFits w32 (pos 2 *ℤ shr_z q 2)
  twice_fits = simp linear (omega (arith, simp linear at q_half_small))

  odd_is : odd ≡ odd_of (floor_div (high +ℤ floor_div low u) 2)
  odd_is =
      let e : q ≡ floor_div (high +ℤ floor_div low u) 2 = shift-floor whole 2 ∙ ap (λ z. floor_div (high +ℤ z) 2) (shift-floor low u) in
      ap (λ z. q -ℤ pos 2 *ℤ z) (shift-floor q 2) ∙ ap odd_of e

  odd_is_small : nat_abs odd ≤ 1
  odd_is_small =
      let b = odd_small (floor_div (high +ℤ floor_div low u) 2) in
      rw odd_is (simp linear (omega (arith, simp linear at b.0, simp linear at b.1)))

  odd_fits : SFits w32 odd
  odd_fits = abs_fits w32 odd (omega (arith, odd_is_small))

  nearly_half_fits : SFits w32 nearly_half
  nearly_half_fits = simp linear (omega (arith, some, few))

  nearly_small : nat_abs (low +ℤ nearly_half) ≤ 2 ^ 30 + 8192
  nearly_small = let n : nat_abs nearly_half ≤ 8192 = simp linear (omega (arith, some, few)) in omega (arith, abs_triangle low nearly_half, low_small, n)

  nearly_fits : SFits w32 (low +ℤ nearly_half)
  nearly_fits = abs_fits w32 (low +ℤ nearly_half) (omega (arith, nearly_small))

  risen_small : nat_abs risen ≤ 2 ^ 30 + 8193
  risen_small = omega (arith, abs_triangle (low +ℤ nearly_half) odd, nearly_small, odd_is_small)

  risen_fits : SFits w32 risen
  risen_fits = abs_fits w32 risen (omega (arith, risen_small))

  risen_part_small : nat_abs (shr_z risen u) ≤ 2 ^ 30 + 8193
  risen_part_small = shift_small risen some (2 ^ 30 + 8193) risen_small

  risen_part_fits : SFits w32 (shr_z risen u)
  risen_part_fits = abs_fits w32 (shr_z risen u) (omega (arith, risen_part_small))

  sum_fits : SFits w32 sum
  sum_fits = abs_fits w32 sum (omega (arith, abs_triangle high (shr_z risen u), high_small, risen_part_small))

  result_fits : SFits w32 (shr_z sum 2)
  result_fits = shift_fits sum 2 sum_fits

  result_is : shr_z sum 2 ≡ floor_div (high +ℤ floor_div (low +ℤ nearly_half +ℤ odd_of (floor_div (high +ℤ floor_div low u) 2)) u) 2
  result_is = shift-floor sum 2 ∙ ap (λ z. floor_div (high +ℤ z) 2) (shift-floor risen u ∙ ap (λ o. floor_div (low +ℤ nearly_half +ℤ o) u) odd_is)

  -- the law, where what is added is one less than a unit
  rounds : floor_div (high +ℤ floor_div (low +ℤ (pos u -ℤ pos 1) +ℤ odd_of (floor_div (high +ℤ floor_div low u) 2)) u) 2 ≡ near (pos u *ℤ high +ℤ low) (u * 2)
  rounds =
      let one : u ≡ 1 * u = omega arith in
      ap (λ h. floor_div (high +ℤ floor_div (low +ℤ (pos h -ℤ pos 1) +ℤ odd_of (floor_div (high +ℤ floor_div low u) 2)) u) 2) one
      ∙ near_parts high low {u = u} {h = 1} some (omega arith)

-- the unit, as the code shifts it
unit_is : (u : ℕ) → u ≤ 8192 → to_z w32 (1 * u % 4294967296) ≡ pos u
unit_is u few = let e : 1 * u % 4294967296 ≡ u = omega arith in rw e (to_z_pos w32 (omega arith))

module _ (S : ℕ) (within : S ≤ 13) where
  some_units : 0 < 2 ^ S
  some_units = pow_pos S

  few_units : 2 ^ S ≤ 8192
  few_units = pow_mono within

pub overflow_mul-odd : goal.overflow_mul-odd
overflow_mul-odd g c =
    let u = 2 ^ g.row.S in
    let k = some_units g.row.S c.requires.shift in
    let m = few_units g.row.S c.requires.shift in
    let h = c.requires.small.0 in
    let l = c.requires.small.1 in
    simp (reads, c.ranges.high, c.ranges.low, part_fits c.args.high c.args.low u k m h l, whole_fits c.args.high c.args.low u k m h l, q_fits c.args.high c.args.low u k m h l, half_fits c.args.high c.args.low u k m h l) (twice_fits c.args.high c.args.low u k m h l)

pub overflow_sub-odd : goal.overflow_sub-odd
overflow_sub-odd g c =
    let u = 2 ^ g.row.S in
    let k = some_units g.row.S c.requires.shift in
    let m = few_units g.row.S c.requires.shift in
    let h = c.requires.small.0 in
    let l = c.requires.small.1 in
    simp (reads, c.ranges.high, c.ranges.low, part_fits c.args.high c.args.low u k m h l, whole_fits c.args.high c.args.low u k m h l, q_fits c.args.high c.args.low u k m h l, half_fits c.args.high c.args.low u k m h l, twice_fits c.args.high c.args.low u k m h l) (odd_fits c.args.high c.args.low u k m h l)

pub overflow_add-result-2 : goal.overflow_add-result-2
overflow_add-result-2 g c =
    let u = 2 ^ g.row.S in
    let k = some_units g.row.S c.requires.shift in
    let m = few_units g.row.S c.requires.shift in
    let h = c.requires.small.0 in
    let l = c.requires.small.1 in
    simp (reads, unit_is u m, c.ranges.high, c.ranges.low, part_fits c.args.high c.args.low u k m h l, whole_fits c.args.high c.args.low u k m h l, q_fits c.args.high c.args.low u k m h l, half_fits c.args.high c.args.low u k m h l, twice_fits c.args.high c.args.low u k m h l, odd_fits c.args.high c.args.low u k m h l, nearly_half_fits c.args.high c.args.low u k m h l, nearly_fits c.args.high c.args.low u k m h l) (risen_fits c.args.high c.args.low u k m h l)

pub overflow_add-result-3 : goal.overflow_add-result-3
overflow_add-result-3 g c =
    let u = 2 ^ g.row.S in
    let k = some_units g.row.S c.requires.shift in
    let m = few_units g.row.S c.requires.shift in
    let h = c.requires.small.0 in
    let l = c.requires.small.1 in
    simp (reads, unit_is u m, c.ranges.high, c.ranges.low, part_fits c.args.high c.args.low u k m h l, whole_fits c.args.high c.args.low u k m h l, q_fits c.args.high c.args.low u k m h l, half_fits c.args.high c.args.low u k m h l, twice_fits c.args.high c.args.low u k m h l, odd_fits c.args.high c.args.low u k m h l, nearly_half_fits c.args.high c.args.low u k m h l, nearly_fits c.args.high c.args.low u k m h l, risen_fits c.args.high c.args.low u k m h l, risen_part_fits c.args.high c.args.low u k m h l) (sum_fits c.args.high c.args.low u k m h l)

pub returns : goal.returns
returns g c =
    let u = 2 ^ g.row.S in
    let k = some_units g.row.S c.requires.shift in
    let m = few_units g.row.S c.requires.shift in
    let h = c.requires.small.0 in
    let l = c.requires.small.1 in
    simp (reads, unit_is u m, c.ranges.high, c.ranges.low, part_fits c.args.high c.args.low u k m h l, whole_fits c.args.high c.args.low u k m h l, q_fits c.args.high c.args.low u k m h l, half_fits c.args.high c.args.low u k m h l, twice_fits c.args.high c.args.low u k m h l, odd_fits c.args.high c.args.low u k m h l, nearly_half_fits c.args.high c.args.low u k m h l, nearly_fits c.args.high c.args.low u k m h l, risen_fits c.args.high c.args.low u k m h l, risen_part_fits c.args.high c.args.low u k m h l, sum_fits c.args.high c.args.low u k m h l, result_fits c.args.high c.args.low u k m h l) (result_is c.args.high c.args.low u k m h l ∙ rounds c.args.high c.args.low u k m h l)
