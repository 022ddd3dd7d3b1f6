-- The laws of the level above a level: how long it is, its words and how large they are. Assumes nothing.
use mathlib.Core.Path.{◌≡◌}
use mathlib.Core.List.{List}
use Prim.Native.Nat.{ℕ, suc, ◌^◌, ◌-◌, ◌*◌, ◌/◌, ◌≤◌, ◌<◌}
use native.Mathlib.Nat.{le_refl}
use native.Mathlib.Decide.{dec_le}
use native.Mathlib.Omega.{arith}
use lib.IntN.{ℤ, pos, nat_abs}
use lib.ListN.{length}
use Rattle.arith.specs.Lists.{at}
use Rattle.arith.proofs.Floor.{near_bound}
use Rattle.arith.proofs.Lists.{at_outside, length-tabulate, get_or-tabulate}
use Rattle.book.specs.Check.{tap_sum}
use Rattle.arith.proofs.Bits.{reads}
use Rattle.book.proofs.Around.{around, around_bound, tap_bound_lem, tap_fits}
use mir.Syntax.{w32}
use mir.Val.{of_z, to_z}
use Rattle.octave.specs.Octave.{half_length, level_sum, level_word, next_level}

-- as the code computes it
pub half_length_rest : (n : ℕ) → n - n / 2 ≡ half_length n
unfolding half_length
half_length_rest n = omega arith

pub half_length-≤ : (n : ℕ) → half_length n ≤ n
unfolding half_length
half_length-≤ n = omega arith

-- word 2k of a level lies in it where word k lies in the level above
pub half_length_inside : (n k : ℕ) → k < half_length n → 2 * k < n
unfolding half_length
half_length_inside n k h = omega arith

pub half_length_holds : (n k : ℕ) → 2 * k < n → k < half_length n
unfolding half_length
half_length_holds n k h = omega arith

pub length-next : (h level : List ℤ) → length (next_level h level) ≡ half_length (length level)
unfolding next_level
length-next h level = length-tabulate (half_length (length level)) (level_word h level)

pub at_next : (h level : List ℤ) (k : ℕ) → k < half_length (length level) → at (next_level h level) k ≡ level_word h level k
unfolding next_level
at_next h level k l = get_or-tabulate (half_length (length level)) (level_word h level) k (pos 0) l

pub word_bound : (h level : List ℤ) → tap_sum h ≤ 32768 → (c : ℕ) → ((k : ℕ) → nat_abs (at level k) ≤ c) → (n : ℕ) → nat_abs (level_word h level n) ≤ 2 * c
unfolding level_word level_sum
word_bound h level small c bound n = near_bound (around h level (2 * n) (length h)) {b = 16384} (omega arith) (2 * c) (omega (arith, around_bound h level (2 * n) small c bound (length h) (le_refl (length h))))

pub next_bound : (h level : List ℤ) → tap_sum h ≤ 32768 → (c : ℕ) → ((k : ℕ) → nat_abs (at level k) ≤ c) → (k : ℕ) → nat_abs (at (next_level h level) k) ≤ 2 * c
next_bound h level small c bound k = go (dec_le (suc k) (half_length (length level)))
  where
    go : Dec (k < half_length (length level)) → nat_abs (at (next_level h level) k) ≤ 2 * c
    go (yes l) = rw (at_next h level k l) (word_bound h level small c bound k)
    go (no l) = rw (at_outside (next_level h level) k (omega (arith, length-next h level))) (omega arith)

-- a tap, as the code limits it
pub tap_small : (h : List ℤ) → tap_sum h ≤ 32768 → (d : ℕ) → d < length h → nat_abs (to_z w32 (of_z w32 (at h d))) ≤ 2 ^ 30
tap_small h small d l = simp (reads, tap_fits h small d l) (omega (arith, tap_bound_lem h d l, small))
