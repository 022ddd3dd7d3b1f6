-- The laws of `limit`. Assumes nothing.
use mathlib.Core.Path.{◌≡◌, refl, sym, ◌∙◌}
use mathlib.Core.Bool.{Bool, true, false, cond}
use mathlib.Core.Logic.{◌⊎◌, inl, inr}
use Prim.Native.Nat.{ℕ, ◌≤◌}
use native.Mathlib.Omega.{arith}
use lib.IntN.{ℤ, pos, negsuc, neg_ℤ, nat_abs, ◌-ℤ◌}
use lib.Signed.{lt_z, ◌≤ℤ◌, ◌<ℤ◌, ≤ℤ_refl}
use Rattle.std.specs.Int.{int_max, int_min}
use Rattle.std.proofs.lemmas.Int.{ints}
use Rattle.arith.specs.Limit.{limit}
use Rattle.arith.proofs.Linear.{linear, signed, lt_yes, lt_no}
use Rattle.arith.proofs.Integers.{<ℤ-≤ℤ, abs-≤, ≤-abs, ≤ℤ-antisymm}

-- the ends of 16 bits
abbrev pub low : ℤ
low = negsuc 32767

abbrev pub high : ℤ
high = pos 32767

module _ (lo hi x : ℤ) where
  pub limit_between : lo ≤ℤ hi → (lo ≤ℤ limit lo hi x) × (limit lo hi x ≤ℤ hi)
  unfolding limit
  limit_between h = go (lt_z x lo) (lt_z hi x) refl refl
    where
      go : (s t : Bool) → lt_z x lo ≡ s → lt_z hi x ≡ t → (lo ≤ℤ cond s lo (cond t hi x)) × (cond s lo (cond t hi x) ≤ℤ hi)
      go true t e f = (≤ℤ_refl lo, h)
      go false true e f = (h, ≤ℤ_refl hi)
      go false false e f = (lt_no e, lt_no f)

  -- what is below lo becomes lo, what is above hi becomes hi ..
  pub limit_low : x <ℤ lo → limit lo hi x ≡ lo
  unfolding limit
  limit_low h =
      let e : lt_z x lo ≡ true = simp linear (omega signed) in
      rw e refl

  pub limit_high : lo ≤ℤ hi → hi <ℤ x → limit lo hi x ≡ hi
  unfolding limit
  limit_high h k =
      let e : lt_z x lo ≡ false = simp linear (omega signed) in
      let d : lt_z hi x ≡ true = simp linear (omega signed) in
      rw e (rw d refl)

  -- .. and what lies between stays
  pub limit-same : lo ≤ℤ x → x ≤ℤ hi → limit lo hi x ≡ x
  unfolding limit
  limit-same h k = go (lt_z x lo) (lt_z hi x) refl refl
    where
      go : (s t : Bool) → lt_z x lo ≡ s → lt_z hi x ≡ t → cond s lo (cond t hi x) ≡ x
      go true t e f = ≤ℤ-antisymm h (<ℤ-≤ℤ (lt_yes e))
      go false true e f = ≤ℤ-antisymm (<ℤ-≤ℤ (lt_yes f)) k
      go false false e f = refl

-- the library's words for it
pub limit_clamp : (lo hi x : ℤ) → lo ≤ℤ hi → int_max lo (int_min x hi) ≡ limit lo hi x
unfolding limit
limit_clamp lo hi x h = grind (arith, ints)

-- r is the positive part of a: a, or 0 where that is larger
abbrev pub Positive : ℤ → ℤ → Type 0
Positive a r = ((a <ℤ pos 0) × (r ≡ pos 0)) ⊎ ((pos 0 ≤ℤ a) × (r ≡ a))

pub positive : (a r : ℤ) → r ≡ cond (lt_z a (pos 0)) (pos 0) a → Positive a r
positive a r = go (lt_z a (pos 0)) refl
  where
    go : (s : Bool) → lt_z a (pos 0) ≡ s → r ≡ cond s (pos 0) a → Positive a r
    go true e d = inl (lt_yes e, d)
    go false e d = inr (lt_no e, d)

pub not_below_0 : {a r : ℤ} → Positive a r → pos 0 ≤ℤ r
not_below_0 (inl (h, e)) = simp linear (omega (arith, simp linear at e))
not_below_0 (inr (h, e)) = simp linear (omega (arith, simp linear at e, simp linear at h))

-- the limit by two positive parts: how far x has risen above lo, and what is then left up to hi
pub limit_by_parts : (lo hi x : ℤ) {risen left : ℤ} → lo ≤ℤ hi → Positive (x -ℤ lo) risen → Positive (hi -ℤ lo -ℤ risen) left → hi -ℤ left ≡ limit lo hi x
limit_by_parts lo hi x l (inl (h, e)) (inl (k, d)) = absurd (omega (signed, simp linear at e, simp linear at k))
limit_by_parts lo hi x l (inl (h, e)) (inr (k, d)) =
    simp linear (omega (arith, simp linear at e, simp linear at d)) ∙ sym (limit_low lo hi x (simp linear (omega (arith, simp linear at h))))
limit_by_parts lo hi x l (inr (h, e)) (inl (k, d)) =
    simp linear (omega (arith, simp linear at d)) ∙ sym (limit_high lo hi x l (simp linear (omega (arith, simp linear at e, simp linear at k))))
limit_by_parts lo hi x l (inr (h, e)) (inr (k, d)) =
    simp linear (omega (arith, simp linear at e, simp linear at d))
    ∙ sym (limit-same lo hi x (simp linear (omega (arith, simp linear at h))) (simp linear (omega (arith, simp linear at e, simp linear at k))))

-- the same limit on both sides
module _ (B : ℕ) (x : ℤ) where
  pub limit_bound : nat_abs (limit (neg_ℤ (pos B)) (pos B) x) ≤ B
  limit_bound =
      let b = limit_between (neg_ℤ (pos B)) (pos B) x (simp linear (omega arith)) in
      abs-≤ (limit (neg_ℤ (pos B)) (pos B) x) (b.1, b.0)

  pub limit_inside : nat_abs x ≤ B → limit (neg_ℤ (pos B)) (pos B) x ≡ x
  limit_inside h = let b = ≤-abs {a = x} h in limit-same (neg_ℤ (pos B)) (pos B) x b.1 b.0
