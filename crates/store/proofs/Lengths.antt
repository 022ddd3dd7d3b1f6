-- The lengths of levels and stores: each level is at most as long as the recording, and the next level begins where one ends. Assumes nothing.
use mathlib.Core.Path.{◌≡◌, refl}
use Prim.Native.Nat.{ℕ, zero, suc, ◌+◌, ◌*◌, ◌≤◌}
use native.Mathlib.Nat.{le_trans}
use native.Mathlib.Numerals.{add-one}
use native.Mathlib.Omega.{arith}
use Rattle.arith.proofs.Sum.{total_more, total-≤, total-same, total_mono}
use Rattle.arith.specs.Sum.{total}
use Rattle.octave.specs.Octave.{half_length}
use Rattle.octave.proofs.Octave.{half_length-≤}
use Rattle.store.specs.Sizes.{level_length, levels_below, header_length, level_start, store_length}

-- ---- levels

pub level_length-≤ : (S j : ℕ) → level_length S j ≤ S
unfolding level_length
level_length-≤ S zero = omega arith
level_length-≤ S (suc j) = omega (arith, level_length-≤ S j, half_length-≤ (level_length S j))

pub level_length-zero : (S : ℕ) → level_length S 0 ≡ S
unfolding level_length
level_length-zero S = refl

pub level_length_more : (S j : ℕ) → level_length S (j + 1) ≡ half_length (level_length S j)
unfolding level_length
level_length_more S j = rw add-one

pub levels_below-zero : (S : ℕ) → levels_below S 0 ≡ 0
unfolding levels_below total
levels_below-zero S = refl

pub levels_below_more : (S j : ℕ) → levels_below S (j + 1) ≡ levels_below S j + level_length S j
unfolding levels_below
levels_below_more S j = total_more j (λ i. level_length S i)

pub levels_below_mono : (S : ℕ) {m n : ℕ} → m ≤ n → levels_below S m ≤ levels_below S n
unfolding levels_below
levels_below_mono S {m} {n} h = total_mono m n (λ i. level_length S i) h

pub levels_below-≤ : (S j : ℕ) {c : ℕ} → S ≤ c → levels_below S j ≤ j * c
unfolding levels_below
levels_below-≤ S j {c} h = rw (← total-same j c) (total-≤ j (λ i l. le_trans (level_length-≤ S i) h))

-- ---- places in a store

pub level_start_is : (S T j : ℕ) → level_start S T j ≡ 3 + T + levels_below S j
unfolding level_start header_length
level_start_is S T j = refl

pub level_start_more : (S T j : ℕ) → level_start S T (j + 1) ≡ level_start S T j + level_length S j
level_start_more S T j = omega (arith, level_start_is S T j, level_start_is S T (j + 1), levels_below_more S j)

pub store_length_is : (S T : ℕ) → store_length S T ≡ 3 + T + levels_below S (T + 1)
unfolding store_length
store_length_is S T = rw add-one (level_start_is S T (suc T))
