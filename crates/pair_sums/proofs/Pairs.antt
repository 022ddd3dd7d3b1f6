-- Shifts, words set in lists, and a word's parts. Assumes nothing.
use mathlib.Core.Path.{◌≡◌, refl, sym, ap, ap₂, ◌∙◌}
use mathlib.Core.List.{List}
use Prim.Native.Nat.{ℕ, zero, suc, ◌+◌, ◌*◌, ◌^◌, ◌≤◌, ◌<◌}
use native.Mathlib.Decide.{ℕ_discrete}
use native.Mathlib.Omega.{arith}
use lib.IntN.{ℤ, pos, negsuc, nat_abs, ◌+ℤ◌, ◌*ℤ◌}
use lib.ListN.{length, set, replicate, length-set}
use lib.Seq.{get_or-set_same, get_or-set_other}
use lib.Signed.{shr_z, ◌<ℤ◌, ◌≤ℤ◌}
use Rattle.arith.specs.Floor.{floor_div, near}
use Rattle.arith.specs.Lists.{at}
use Rattle.arith.proofs.Floor.{floor-≤, floor-<, floor_bound, near_scale}
use Rattle.arith.proofs.Integers.{abs_triangle}
use Rattle.arith.proofs.Linear.{linear}
use Rattle.pair_sums.specs.Pairs.{upper_part, lower_part}

-- ---- shifts

pub shift-floor : (x : ℤ) (m : ℕ) → shr_z x m ≡ floor_div x m
unfolding floor_div
shift-floor (pos n) m = refl
shift-floor (negsuc n) m = refl

-- ---- words of two lists, set at one place

module _ (xs ys : List ℤ) (j : ℕ) (v w : ℤ) where
  pub added_same : j < length xs → j < length ys → at (set xs j v) j +ℤ at (set ys j w) j ≡ v +ℤ w
  added_same k l = ap₂ ◌+ℤ◌ (get_or-set_same xs j v (pos 0) k) (get_or-set_same ys j w (pos 0) l)

  pub added_other : (i : ℕ) → (i ≡ j → ⊥) → at (set xs j v) i +ℤ at (set ys j w) i ≡ at xs i +ℤ at ys i
  added_other i n = ap₂ ◌+ℤ◌ (get_or-set_other xs j i v (pos 0) n) (get_or-set_other ys j i w (pos 0) n)

pub zeros_at : (n j : ℕ) → at (replicate n (pos 0)) j ≡ pos 0
zeros_at zero j = refl
zeros_at (suc n) zero = refl
zeros_at (suc n) (suc j) = zeros_at n j

-- words of two halves of a list, set together: R holds of words and parts
pub split_more : (R : ℤ → ℤ → Type 0) (words xs : List ℤ) (i : ℕ) (v w : ℤ) → i < 104 → length xs ≡ 208
    → ((k : ℕ) → k < i → R (at words (2 * k)) (at xs k) × R (at words (2 * k + 1)) (at xs (104 + k)))
    → R (at words (2 * i)) v → R (at words (2 * i + 1)) w
    → (k : ℕ) → k < i + 1 → R (at words (2 * k)) (at (set (set xs i v) (104 + i) w) k) × R (at words (2 * k + 1)) (at (set (set xs i v) (104 + i) w) (104 + k))
split_more R words xs i v w l m before first second k lk = (
  (let e = get_or-set_other (set xs i v) (104 + i) k w (pos 0) (λ e. omega (arith, e)) in rw e (front (ℕ_discrete k i))),
  back (ℕ_discrete k i),
)
  where
    front : Dec (k ≡ i) → R (at words (2 * k)) (at (set xs i v) k)
    front (yes e) = rw (e, get_or-set_same xs i v (pos 0) (omega arith)) first
    front (no n) = rw (get_or-set_other xs i k v (pos 0) n) ((before k (omega arith)).0)

    back : Dec (k ≡ i) → R (at words (2 * k + 1)) (at (set (set xs i v) (104 + i) w) (104 + k))
    back (yes e) = rw (e, get_or-set_same (set xs i v) (104 + i) w (pos 0) (simp length-set (omega arith))) second
    back (no n) = rw (get_or-set_other (set xs i v) (104 + i) (104 + k) w (pos 0) (λ e. n (omega (arith, e))), get_or-set_other xs i (104 + k) v (pos 0) (λ e. omega (arith, e))) ((before k (omega arith)).1)

-- a word set behind those before it
pub set_more : (R : ℕ → ℤ → Type 0) (xs : List ℤ) (i : ℕ) (v : ℤ) → i < length xs → ((k : ℕ) → k < i → R k (at xs k)) → R i v → (k : ℕ) → k < i + 1 → R k (at (set xs i v) k)
set_more R xs i v l before here k lk = go (ℕ_discrete k i)
  where
    go : Dec (k ≡ i) → R k (at (set xs i v) k)
    go (yes e) = rw (e, get_or-set_same xs i v (pos 0) l) here
    go (no n) = rw (get_or-set_other xs i k v (pos 0) n) (before k (omega arith))

-- ---- parts of a word

module _ (x : ℤ) where
  pub upper_small : nat_abs x ≤ 2 ^ 26 → nat_abs (upper_part x) ≤ 2048
  upper_small l = floor_bound (x +ℤ pos 32768) (omega arith) 2048 (omega (arith, abs_triangle x (pos 32768)))

  pub lower_between : (negsuc 32767 ≤ℤ lower_part x) × (lower_part x <ℤ pos 32768)
  lower_between =
      let l = simp linear at (floor-≤ (x +ℤ pos 32768) {b = 65536} (omega arith)) in
      let u = simp linear at (floor-< (x +ℤ pos 32768) {b = 65536} (omega arith)) in
      (simp linear (omega (arith, l, u)), simp linear (omega (arith, l, u)))

-- ---- rounded sums

pub part_near : (u l : ℤ) → near (pos (2 ^ 13) *ℤ (pos 8 *ℤ u) +ℤ l) (2 ^ 13 * 2) ≡ near (pos 65536 *ℤ u +ℤ l) 16384
part_near u l = let e : pos (2 ^ 13) *ℤ (pos 8 *ℤ u) +ℤ l ≡ pos 65536 *ℤ u +ℤ l = simp linear (omega arith) in ap (λ z. near z 16384) e

pub sample_near : (x : ℤ) → near (pos (2 ^ 5) *ℤ pos 0 +ℤ x) (2 ^ 5 * 2) ≡ near (pos 256 *ℤ x) 16384
sample_near x = let e : pos (2 ^ 5) *ℤ pos 0 +ℤ x ≡ x = simp linear (omega arith) in ap (λ z. near z 64) e ∙ sym (near_scale x 64 {c = 256} (omega arith) (omega arith))
