-- A level's limit, and the words that a run reads, from word `end` back: those that limiting leaves as they are, and how large they are. Assumes
-- nothing.
use mathlib.Core.Path.{◌≡◌, refl, sym, ap, ap₂, ◌∙◌}
use mathlib.Core.List.{List}
use Prim.Native.Nat.{ℕ, ◌+◌, ◌-◌, ◌^◌, ◌≤◌, ◌<◌}
use native.Mathlib.Nat.{le_trans}
use native.Mathlib.Omega.{arith}
use mathlib.Core.Logic.{◌⊎◌, inl, inr}
use lib.Signed.{◌≤ℤ◌, ◌<ℤ◌}
use lib.IntN.{ℤ, pos, neg_ℤ, nat_abs, ◌-ℤ◌}
use lib.Pow.{pow_mono}
use mir.Syntax.{w32}
use mir.Val.{SFits}
use Rattle.arith.specs.Limit.{limit}
use Rattle.arith.specs.Lists.{at, word_at}
use Rattle.arith.proofs.Bits.{reads, read32}
use Rattle.arith.proofs.Integers.{abs_fits, ≤ℤ-or-<ℤ}
use Rattle.arith.proofs.Linear.{abs_neg}
use Rattle.arith.proofs.Limit.{limit_inside, limit_low, limit_high, limit-same}
use Rattle.std.proofs.lemmas.Int.{ints, int_max_is, int_min_is}
use Rattle.std.specs.Int.{int_max, int_min}
use Rattle.book.proofs.Around.{before_inside}
use Rattle.values.specs.Values.{limited_word}
use Rattle.values.proofs.Values.{limited_word_bound}

-- ---- a level's limit b, and a word that was limited by it

pub negated_fits : (b : ℤ) → nat_abs b ≤ 2 ^ 27 → SFits w32 (neg_ℤ b)
negated_fits b h = abs_fits w32 (neg_ℤ b) (rw abs_neg (omega arith))

module _ (l : ℕ) (low : l ≤ 4) (b : ℤ) (e : b ≡ pos (2 ^ (23 + l))) where
  pub bound_fits : SFits w32 b
  bound_fits = rw e (abs_fits w32 (pos (2 ^ (23 + l))) (omega (arith, pow_mono {i = 23 + l} {j = 27} (omega arith))))

  pub bound-small : (nat_abs (read32 b) ≤ 2 ^ 27) × (read32 b ≡ pos (nat_abs (read32 b)))
  bound-small = let f = bound_fits in simp (reads, f) (rw e (pow_mono {j = 27} (omega arith), refl))

  pub bound_high : nat_abs b ≤ 2 ^ 27
  bound_high = rw e (pow_mono {j = 27} (omega arith))

  pub bound-above : neg_ℤ b ≤ℤ b
  bound-above = omega (arith, ints, e)

  pub limited_is : (words : List ℤ) (i x : ℤ) {w : ℤ} → x ≡ word_at words i → w ≡ limit (neg_ℤ b) b x → w ≡ limited_word words l i
  unfolding limited_word
  limited_is words i x g h = h ∙ ap₂ (λ c y. limit (neg_ℤ c) c y) e g

-- ---- a word between two bounds

pub clamped : (lo hi x : ℤ) → lo ≤ℤ hi → int_max lo (int_min x hi) ≡ limit lo hi x
clamped lo hi x h = go (≤ℤ-or-<ℤ lo x) (≤ℤ-or-<ℤ x hi)
  where
    go : (lo ≤ℤ x) ⊎ (x <ℤ lo) → (x ≤ℤ hi) ⊎ (hi <ℤ x) → int_max lo (int_min x hi) ≡ limit lo hi x
    go (inr l) s = let e : int_max lo (int_min x hi) ≡ lo = omega (arith, ints, int_max_is, int_min_is) in e ∙ sym (limit_low lo hi x l)
    go (inl l) (inr m) = let e : int_max lo (int_min x hi) ≡ hi = omega (arith, ints, int_max_is, int_min_is) in e ∙ sym (limit_high lo hi x h m)
    go (inl l) (inl m) = let e : int_max lo (int_min x hi) ≡ x = omega (arith, ints, int_max_is, int_min_is) in e ∙ sym (limit-same lo hi x l m)

-- ---- word `end` − k of a level

abbrev pub word_back : List ℤ → ℕ → ℕ → ℕ → ℤ
word_back words l end k = limited_word words l (pos end -ℤ pos k)

-- inside the level and within its limit it is as it stands
pub inside_word : (words : List ℤ) (l end k : ℕ) → k ≤ end → nat_abs (at words (end - k)) ≤ 2 ^ (23 + l) → at words (end - k) ≡ word_back words l end k
unfolding limited_word
inside_word words l end k h b =
    sym (limit_inside (2 ^ (23 + l)) (at words (end - k)) b)
    ∙ ap (limit (neg_ℤ (pos (2 ^ (23 + l)))) (pos (2 ^ (23 + l)))) (sym (before_inside words end k h))

-- the words of a window are small
pub staged_small : (window words : List ℤ) (l end n : ℕ) → l ≤ 4 → ((k : ℕ) → k < n → at window k ≡ limited_word words l (pos end -ℤ pos k)) → (k : ℕ) → k < n → nat_abs (at window k) ≤ 2 ^ 27
staged_small window words l end n low staged k h = rw (staged k h) (le_trans (limited_word_bound words l (pos end -ℤ pos k)) (pow_mono {j = 27} (omega arith)))
