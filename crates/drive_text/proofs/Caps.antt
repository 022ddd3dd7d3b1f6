-- Numbers that are kept up to a cap. Assumes nothing.
use mathlib.Core.Path.{◌≡◌, refl, sym, ap, ◌∙◌}
use mathlib.Core.Bool.{Bool, true, false}
use Prim.Native.Nat.{ℕ, ◌+◌, ◌*◌, ◌≤◌, min}
use native.Mathlib.Nat.{min-eq_left, min-eq_right, mul-le-mul_left, mul-le-mul_right}
use native.Mathlib.Omega.{arith}
use lib.Dec.{ltb}
use borrow.Author.Tests.{ltb-true, ltb-false}

-- what is the same at the cap and past it is the same of a number and of what is kept of it
pub by_cap : {A : Type 0} (f : ℕ → A) (n cap : ℕ) → (cap ≤ n → f cap ≡ f n) → f (min n cap) ≡ f n
by_cap f n cap past = go (ltb n cap) refl
  where
    go : (t : Bool) → ltb n cap ≡ t → f (min n cap) ≡ f n
    go true e = let l : n ≤ cap = omega (arith, ltb-true n cap e) in ap f (min-eq_left l)
    go false e = let l : cap ≤ n = ltb-false n cap e in ap f (min-eq_right l) ∙ past l

-- growing what is kept is growing the number
pub cap_grown : (k n x cap : ℕ) → 1 ≤ k → min (k * min n cap + x) cap ≡ min (k * n + x) cap
cap_grown k n x cap h = by_cap (λ m. min (k * m + x) cap) n cap past
  where
    past : cap ≤ n → min (k * cap + x) cap ≡ min (k * n + x) cap
    past l =
        let p : 1 * cap ≤ k * cap = mul-le-mul_right cap h in
        let q : k * cap ≤ k * n = mul-le-mul_left k l in
        let a : cap ≤ k * cap + x = omega arith in
        let b : cap ≤ k * n + x = omega arith in
        min-eq_right a ∙ sym (min-eq_right b)
