-- How the code comes to the nearest integer: by a division rounded down, of a number to which nearly a half was added, or a half. Assumes
-- nothing.
use mathlib.Core.Path.{◌≡◌, sym, ap, ◌∙◌}
use mathlib.Core.Logic.{◌⊎◌, inl, inr}
use Prim.Native.Nat.{ℕ, suc, ◌+◌, ◌*◌, ◌/◌, ◌%◌, ◌^◌, ◌≤◌, ◌<◌}
use native.Mathlib.Nat.{div-add-mod, mod-lt, mul-pos}
use native.Mathlib.Omega.{arith}
use lib.IntN.{ℤ, pos, negsuc, nat_abs, ◌+ℤ◌, ◌-ℤ◌, ◌*ℤ◌, +ℤ_comm}
use lib.Signed.{◌≤ℤ◌, ◌<ℤ◌, quot_z}
use mir.Syntax.{w64}
use mir.Val.{SFits}
use Rattle.std.specs.Int.{int_rem_euclid}
use Rattle.arith.specs.Floor.{floor_div, even_of, near}
use Rattle.arith.proofs.Linear.{linear}
use Rattle.arith.proofs.Integers.{≤ℤ-or-<ℤ, ≤ℤ-antisymm, abs_triangle}
use Rattle.arith.proofs.Floor.{even_or, closer, halfway, near_is, floor-≤, floor-<, floor_unique, floor_bound, floor-+, floor-floor, multiple_fits, rest_euclid, quot_exact}

-- ---- rounded down: without its rest a is a multiple of b, which the division takes exactly

pub shift_fits : (a r : ℤ) {b : ℤ} → pos 0 <ℤ b → nat_abs a + 2 ^ 34 ≤ 2 ^ 63 → b ≤ℤ pos (2 ^ 34) → r ≡ int_rem_euclid a b → SFits w64 (a -ℤ r)
shift_fits a r {b} h small few e =
    let left : a -ℤ r ≡ pos (nat_abs b) *ℤ floor_div a (nat_abs b) = rw (e, rest_euclid a h) (simp linear (omega arith)) in
    rw left (multiple_fits a h small few)

pub shift_floor : (a r : ℤ) {b : ℤ} → pos 0 <ℤ b → r ≡ int_rem_euclid a b → quot_z (a -ℤ r) b ≡ floor_div a (nat_abs b)
shift_floor a r {b} h e =
    let left : a -ℤ r ≡ pos (nat_abs b) *ℤ floor_div a (nat_abs b) = rw (e, rest_euclid a h) (simp linear (omega arith)) in
    rw left (quot_exact (floor_div a (nat_abs b)) h)

-- ---- the lowest bit

-- 1 for an odd number, 0 for an even one
abbrev pub odd_of : ℤ → ℤ
odd_of n = n -ℤ pos 2 *ℤ floor_div n 2

below_two : 0 < 2
below_two = omega arith

pub odd_small : (n : ℤ) → (pos 0 ≤ℤ odd_of n) × (odd_of n ≤ℤ pos 1)
odd_small n = simp linear (omega (arith, simp linear at (floor-≤ n below_two), simp linear at (floor-< n below_two)))

odd_bit : (n : ℤ) → odd_of n ≡ pos (nat_abs n % 2)
unfolding floor_div
odd_bit (pos n) = simp linear (omega (arith, div-add-mod n 2))
odd_bit (negsuc n) = simp linear (omega (arith, div-add-mod n 2, div-add-mod (suc n) 2, mod-lt n below_two, mod-lt (suc n) below_two))

even_up : (n : ℤ) → n +ℤ odd_of n ≡ even_of n
unfolding even_of
even_up n = ap (λ r. n +ℤ r) (odd_bit n)

odd_or : (n : ℤ) → (odd_of n ≡ pos 0) ⊎ (odd_of n ≡ pos 1)
odd_or n = go (even_or n)
  where
    go : (even_of n ≡ n) ⊎ (even_of n ≡ n +ℤ pos 1) → (odd_of n ≡ pos 0) ⊎ (odd_of n ≡ pos 1)
    go (inl e) = let d : n +ℤ odd_of n ≡ n = even_up n ∙ e in inl (simp linear (omega (arith, simp linear at d)))
    go (inr e) = let d : n +ℤ odd_of n ≡ n +ℤ pos 1 = even_up n ∙ e in inr (simp linear (omega (arith, simp linear at d)))

even_down : (n : ℤ) → n -ℤ odd_of n ≡ even_of (n -ℤ pos 1)
even_down n =
    let k = floor-≤ n below_two in
    let l = floor-< n below_two in
    let k' = floor-≤ (n -ℤ pos 1) below_two in
    let l' = floor-< (n -ℤ pos 1) below_two in
    let e : n -ℤ odd_of n ≡ n -ℤ pos 1 +ℤ odd_of (n -ℤ pos 1) = simp linear (omega (arith, simp linear at k, simp linear at l, simp linear at k', simp linear at l')) in
    e ∙ even_up (n -ℤ pos 1)

-- ---- with nearly a half added

-- what is added to the lower part, and the sum
abbrev pub nearly_of : (half unit odd : ℤ) → ℤ
nearly_of half unit odd = half *ℤ unit -ℤ pos 1

abbrev pub raised_of : (low nearly odd : ℤ) → ℤ
raised_of low nearly odd = odd +ℤ (low +ℤ nearly)

module _ (a : ℤ) {h : ℕ} (l : 0 < h) where
  twice : 0 < 2 * h
  twice = omega (arith, l)

  -- the quotient that is rounded down, and what is divided
  abbrev n : ℤ
  n = floor_div a (2 * h)

  abbrev risen : ℤ
  risen = a +ℤ (pos h -ℤ pos 1) +ℤ odd_of n

  near_risen : floor_div risen (2 * h) ≡ near a (2 * h)
  near_risen = go (≤ℤ-or-<ℤ middle a) (≤ℤ-or-<ℤ a middle)
    where
      middle : ℤ
      middle = pos (2 * h) *ℤ n +ℤ pos h

      -- at the half the lowest bit decides
      exact : a ≡ middle → (o : ℤ) → (o ≡ pos 0) ⊎ (o ≡ pos 1) → floor_div (a +ℤ (pos h -ℤ pos 1) +ℤ o) (2 * h) ≡ n +ℤ o
      exact e o (inl z) =
          let d = simp linear at e in
          rw z (floor_unique (a +ℤ (pos h -ℤ pos 1) +ℤ pos 0) twice (simp linear (omega (arith, d, l))) (simp linear (omega (arith, d))))
      exact e o (inr z) =
          let d = simp linear at e in
          rw z (floor_unique (a +ℤ (pos h -ℤ pos 1) +ℤ pos 1) twice (simp linear (omega (arith, d))) (simp linear (omega (arith, d, l))))

      go : (middle ≤ℤ a) ⊎ (a <ℤ middle) → (a ≤ℤ middle) ⊎ (middle <ℤ a) → floor_div risen (2 * h) ≡ near a (2 * h)
      go (inr k) m =
          let d = simp linear at k in
          let low = simp linear at (floor-≤ a twice) in
          let bit = simp linear at (odd_small n) in
          let f : floor_div risen (2 * h) ≡ n = floor_unique risen twice (simp linear (omega (arith, low, bit, l))) (simp linear (omega (arith, bit, d))) in
          f ∙ sym (near_is a twice (closer n (simp linear (omega (arith, low, d)))))
      go (inl k) (inr m) =
          let d = simp linear at m in
          let high = simp linear at (floor-< a twice) in
          let bit = simp linear at (odd_small n) in
          let f : floor_div risen (2 * h) ≡ n +ℤ pos 1 = floor_unique risen twice (simp linear (omega (arith, bit, d))) (simp linear (omega (arith, bit, high))) in
          f ∙ sym (near_is a twice (closer (n +ℤ pos 1) (simp linear (omega (arith, high, d)))))
      go (inl k) (inl m) =
          let e : a ≡ middle = ≤ℤ-antisymm m k in
          exact e (odd_of n) (odd_or n) ∙ even_up n ∙ sym (near_is a twice (halfway n (simp linear (omega (arith, simp linear at e)))))

-- in two parts, of which the lower one gets what is added
pub near_parts : (H L : ℤ) {u h : ℕ} → 0 < u → 0 < h
    → floor_div (H +ℤ floor_div (L +ℤ (pos (h * u) -ℤ pos 1) +ℤ odd_of (floor_div (H +ℤ floor_div L u) (2 * h))) u) (2 * h) ≡ near (pos u *ℤ H +ℤ L) (u * (2 * h))
near_parts H L {u} {h} k l =
    let T = pos u *ℤ H +ℤ L in
    let C = pos (h * u) -ℤ pos 1 in
    let o = odd_of (floor_div (H +ℤ floor_div L u) (2 * h)) in
    let e : u * (2 * h) ≡ 2 * (h * u) = omega arith in
    let raised : pos u *ℤ H +ℤ (L +ℤ C +ℤ o) ≡ T +ℤ C +ℤ o = simp linear (omega arith) in
    sym (parts (L +ℤ C +ℤ o)) ∙ ap (λ x. floor_div x (u * (2 * h))) raised ∙ ap (λ q. floor_div (T +ℤ C +ℤ odd_of q) (u * (2 * h))) (sym (parts L))
    ∙ ap (λ m. floor_div (T +ℤ C +ℤ odd_of (floor_div T m)) m) e ∙ near_risen T (mul-pos l k) ∙ ap (near T) (sym e)
  where
    -- the floor of both
    parts : (x : ℤ) → floor_div (pos u *ℤ H +ℤ x) (u * (2 * h)) ≡ floor_div (H +ℤ floor_div x u) (2 * h)
    parts x =
        sym (floor-floor (pos u *ℤ H +ℤ x) u (2 * h))
        ∙ ap (λ q. floor_div q (2 * h)) (ap (λ z. floor_div z u) (+ℤ_comm (pos u *ℤ H) x) ∙ floor-+ x H k ∙ +ℤ_comm (floor_div x u) H)

-- how large both quotients by u are
module _ (L : ℤ) {u : ℕ} (k : 0 < u) where
  -- one more than a quotient is enough for what a division leaves
  room : nat_abs L + 1 ≤ u * (nat_abs L / u + 1)
  room = omega (arith, div-add-mod (nat_abs L) u, mod-lt (nat_abs L) k)

  pub part_small : nat_abs (floor_div L u) ≤ nat_abs L / u + 1
  part_small = floor_bound L k (nat_abs L / u + 1) (omega (arith, room))

  pub raised_small : (h : ℕ) (n : ℤ) → nat_abs (floor_div (L +ℤ (pos (h * u) -ℤ pos 1) +ℤ odd_of n) u) ≤ nat_abs L / u + 1 + h
  raised_small h n =
      let x = L -ℤ pos 1 +ℤ odd_of n in
      let e : L +ℤ (pos (h * u) -ℤ pos 1) +ℤ odd_of n ≡ x +ℤ pos u *ℤ pos h = simp linear (omega arith) in
      let small : nat_abs x ≤ nat_abs L + 1 = simp linear (omega (arith, simp linear at (odd_small n))) in
      let q : nat_abs (floor_div x u) ≤ nat_abs L / u + 1 = floor_bound x k (nat_abs L / u + 1) (omega (arith, small, room)) in
      rw (e, floor-+ x (pos h) k) (omega (arith, q, abs_triangle (floor_div x u) (pos h)))

-- ---- from a half that was taken up

module _ (a : ℤ) {b : ℕ} (h : 0 < b) where
  abbrev up : ℤ
  up = floor_div (pos 2 *ℤ a +ℤ pos b) (2 * b)

  abbrev multiple : ℤ
  multiple = pos (2 * b) *ℤ up

  pub near_no_half : (multiple ≡ pos 2 *ℤ a +ℤ pos b → ⊥) → up ≡ near a b
  near_no_half apart = go (≤ℤ-or-<ℤ (pos 2 *ℤ a +ℤ pos b) multiple)
    where
      go : ((pos 2 *ℤ a +ℤ pos b) ≤ℤ multiple) ⊎ (multiple <ℤ (pos 2 *ℤ a +ℤ pos b)) → up ≡ near a b
      go (inl k) = absurd (apart (≤ℤ-antisymm (floor-≤ (pos 2 *ℤ a +ℤ pos b) {b = 2 * b} (omega (arith, h))) k))
      go (inr k) =
          let m = floor-< (pos 2 *ℤ a +ℤ pos b) {b = 2 * b} (omega (arith, h)) in
          sym (near_is a h (closer up (simp linear (omega (arith, simp linear at k, simp linear at m)))))

  pub near_half : multiple ≡ pos 2 *ℤ a +ℤ pos b → up -ℤ odd_of up ≡ near a b
  near_half e =
      let k : pos 2 *ℤ a ≡ pos (2 * b) *ℤ (up -ℤ pos 1) +ℤ pos b = simp linear (omega (arith, simp linear at e)) in
      even_down up ∙ sym (near_is a h (halfway (up -ℤ pos 1) k))

-- the same, as the code has the numbers: q is the quotient by 2b, and its multiple is compared with 2a + b
twice_multiple : (q : ℤ) {b : ℤ} → pos 0 <ℤ b → q *ℤ (pos 2 *ℤ b) ≡ pos (2 * nat_abs b) *ℤ q
twice_multiple q {b = pos n} h = simp linear (omega arith)
twice_multiple q {b = negsuc n} h = absurd h.lt

pub near_up : (a q : ℤ) {b : ℤ} → pos 0 <ℤ b → q ≡ floor_div (pos 2 *ℤ a +ℤ b) (2 * nat_abs b) → (q *ℤ (pos 2 *ℤ b) ≡ pos 2 *ℤ a +ℤ b → ⊥) → q ≡ near a (nat_abs b)
near_up a q {b = pos n} h e apart =
    let z : 0 < n = omega (arith, simp linear at h) in
    rw e (near_no_half a z (λ d. apart (rw e (twice_multiple (up a z) h ∙ d))))
near_up a q {b = negsuc n} h e apart = absurd h.lt

pub near_down : (a q r : ℤ) {b : ℤ} → pos 0 <ℤ b → q ≡ floor_div (pos 2 *ℤ a +ℤ b) (2 * nat_abs b) → q *ℤ (pos 2 *ℤ b) ≡ pos 2 *ℤ a +ℤ b → r ≡ odd_of q → q -ℤ r ≡ near a (nat_abs b)
near_down a q r {b = pos n} h e d o =
    let z : 0 < n = omega (arith, simp linear at h) in
    let whole : multiple a z ≡ pos 2 *ℤ a +ℤ pos n = sym (twice_multiple (up a z) h) ∙ ap (λ k. k *ℤ (pos 2 *ℤ pos n)) (sym e) ∙ d in
    rw (o, e) (near_half a z whole)
near_down a q r {b = negsuc n} h e d o = absurd h.lt

pub twice_multiple_fits : (a q : ℤ) {b : ℤ} → pos 0 <ℤ b → b ≤ℤ pos (2 ^ 32) → nat_abs a ≤ 2 ^ 60 → q ≡ floor_div (pos 2 *ℤ a +ℤ b) (2 * nat_abs b) → SFits w64 (q *ℤ (pos 2 *ℤ b))
twice_multiple_fits a q {b = pos n} h l s e =
    let twice : pos 0 <ℤ pos (2 * n) = simp linear (omega (arith, simp linear at h)) in
    let small : nat_abs (pos 2 *ℤ a +ℤ pos n) + 2 ^ 34 ≤ 2 ^ 63 = simp linear (omega (arith, simp linear at s, simp linear at l)) in
    let m = multiple_fits (pos 2 *ℤ a +ℤ pos n) twice small (simp linear (omega (arith, simp linear at l))) in
    rw (twice_multiple q h, e) m
twice_multiple_fits a q {b = negsuc n} h l s e = absurd h.lt
