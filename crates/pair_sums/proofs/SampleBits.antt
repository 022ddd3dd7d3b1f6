-- Words that are samples × 256, by the bits of their sums with 2^23. Assumes nothing.
use mathlib.Core.Path.{◌≡◌, refl, sym, ap, ◌∙◌}
use Prim.Native.Nat.{ℕ, ◌*◌, ◌/◌, ◌%◌, ◌≤◌, ◌<◌}
use native.Mathlib.Omega.{arith}
use lib.Bits.{bit_or, or_add_and, and_le_r, or_comm, or_mod}
use lib.IntN.{ℤ, pos, negsuc, ◌+ℤ◌, ◌-ℤ◌, ◌*ℤ◌}
use lib.Signed.{◌≤ℤ◌, ◌<ℤ◌}
use mir.Syntax.{w32}
use mir.Val.{Fits, SFits, to_z, of_z}
use mir.Facts.{to_z-of_z, to_z_pos, to_z_inj}
use Rattle.arith.specs.Floor.{floor_div}
use Rattle.arith.specs.Limit.{limit}
use Rattle.arith.proofs.Floor.{floor_unique}
use Rattle.arith.proofs.Limit.{limit-same}
use Rattle.arith.proofs.Linear.{linear}
use Rattle.pair_sums.specs.Pairs.{sample_part}

-- ---- bits together

pub or_holds : (a b : ℕ) → a ≤ bit_or a b
or_holds a b = omega (arith, or_add_and a b, and_le_r a b)

pub or_holds_last : (a b : ℕ) → b ≤ bit_or a b
or_holds_last a b = omega (arith, or_holds b a, or_comm a b)

pub or_clear : (a b : ℕ) → bit_or a b % 256 ≡ 0 → a % 256 ≡ 0
or_clear a b e = omega (arith, or_mod a b 8, or_holds (a % 256) (b % 256))

pub or_clear_last : (a b : ℕ) → bit_or a b % 256 ≡ 0 → b % 256 ≡ 0
or_clear_last a b e = omega (arith, or_mod a b 8, or_holds_last (a % 256) (b % 256))

-- bits of a number from 0 to 2^24
pub bits_low : (b : ℕ) → Fits w32 b → pos 0 ≤ℤ to_z w32 b → to_z w32 b <ℤ pos 16777216 → b < 16777216
bits_low b f l u = go (to_z w32 b) refl l u
  where
    go : (z : ℤ) → to_z w32 b ≡ z → pos 0 ≤ℤ z → z <ℤ pos 16777216 → b < 16777216
    go (pos m) e l u =
        let k : m < 16777216 = omega (arith, simp linear at u) in
        let i : b ≡ m = to_z_inj f (omega arith) (e ∙ sym (to_z_pos w32 (omega arith))) in
        omega arith
    go (negsuc m) e l u = absurd (omega (arith, simp linear at l))

-- ---- a word

pub sample_is : (x : ℤ) → SFits w32 (x +ℤ pos 8388608) → of_z w32 (x +ℤ pos 8388608) < 16777216 → of_z w32 (x +ℤ pos 8388608) % 256 ≡ 0 → x ≡ pos 256 *ℤ sample_part x
sample_is x f l e =
    let b : ℕ = of_z w32 (x +ℤ pos 8388608) in
    let raised : x +ℤ pos 8388608 ≡ pos b = sym (to_z-of_z f) ∙ to_z_pos w32 (omega arith) in
    let s : ℤ = pos (b / 256) -ℤ pos 32768 in
    let whole : b ≡ 256 * (b / 256) = omega arith in
    let x_is : x ≡ pos 256 *ℤ s = simp linear (omega (arith, simp linear at raised, whole)) in
    let floor : floor_div x 256 ≡ s = floor_unique x (omega arith) (simp linear (omega (arith, simp linear at x_is))) (simp linear (omega (arith, simp linear at x_is))) in
    let same : sample_part x ≡ s = ap (limit (negsuc 32767) (pos 32767)) floor ∙ limit-same (negsuc 32767) (pos 32767) s (simp linear (omega arith)) (simp linear (omega arith)) in
    x_is ∙ ap (λ z. pos 256 *ℤ z) (sym same)

pub sample_none : pos 0 ≡ pos 256 *ℤ sample_part (pos 0)
unfolding limit floor_div
sample_none = refl
