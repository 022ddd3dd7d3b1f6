-- Sums and outputs made one after another: what writing the next one leaves. Assumes nothing.
use mathlib.Core.Path.{◌≡◌, sym, ap, ap₂, ◌∙◌}
use mathlib.Core.List.{List, ◌++◌, append_assoc}
use Prim.Native.Nat.{ℕ, ◌+◌, ◌-◌, ◌*◌, ◌/◌, ◌≤◌, ◌<◌}
use native.Mathlib.Nat.{le_trans, le_of_eq, mul-le-mul_left, mul-div-le, mul-suc}
use native.Mathlib.Decide.{ℕ_discrete}
use native.Mathlib.Omega.{arith}
use lib.IntN.{ℤ, pos}
use lib.ListN.{length, set, take, drop, length-drop}
use Rattle.std.proofs.Common.{◌≢◌, below_more, get_or-set_other, get_or-set_same}
use Rattle.std.specs.Int.{div_ceil}
use Rattle.arith.specs.Lists.{at, tabulate, overwrite}
use Rattle.arith.proofs.Lists.{length-tabulate, paste_all, paste_whole}

-- of the first j + 1
pub made_more : (f : ℕ → ℤ) (xs : List ℤ) (j : ℕ) (v : ℤ) → j < length xs → ((i : ℕ) → i < j → at xs i ≡ f i) → v ≡ f j → (i : ℕ) → i < j + 1 → at (set xs j v) i ≡ f i
made_more f xs j v l h e =
    below_more _ _
    (λ k m. let ne : k ≢ j = omega arith in rw get_or-set_other (h k m))
    (rw get_or-set_same e)

-- of those behind it
pub left_less : (xs ys : List ℤ) (j : ℕ) (v : ℤ) → ((i : ℕ) → j ≤ i → at xs i ≡ at ys i) → (i : ℕ) → j + 1 ≤ i → at (set xs j v) i ≡ at ys i
left_less xs ys j v h i l = let ne : i ≢ j = omega arith in rw get_or-set_other (h i (omega arith))

-- turn t of n / L turns, of L words each
pub turn_fits : (L n t : ℕ) → t < n / L → L * t + L ≤ n
turn_fits L n t h = le_trans (le_of_eq (sym (mul-suc L t))) (le_trans (mul-le-mul_left L h) (mul-div-le n L))

-- place 1 + s × i of n + 1 taps, of those that are passed by steps of s
module _ (n s : ℕ) (low : 1 ≤ s) (high : s ≤ 2) where
  pub passed_in : (i : ℕ) → i < div_ceil n s → s * i < n
  passed_in i h = go (ℕ_discrete s 2)
    where
      go : Dec (s ≡ 2) → s * i < n
      go (yes e) = let m : i < div_ceil n 2 = rw e at h in rw e (omega (arith, m))
      go (no d) =
          let e : s ≡ 1 = omega arith in
          let m : i < div_ceil n 1 = rw e at h in
          rw e (omega (arith, m))

  pub passed_all : n ≤ s * div_ceil n s
  passed_all = go (ℕ_discrete s 2)
    where
      go : Dec (s ≡ 2) → n ≤ s * div_ceil n s
      go (yes e) = rw e (omega arith)
      go (no d) = let e : s ≡ 1 = omega arith in rw e (omega arith)
