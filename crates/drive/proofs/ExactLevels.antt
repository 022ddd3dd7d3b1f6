-- The levels that are built and the exact ones: both are equally long, a built word lies near the exact one, and the exact words of two
-- recordings lie at most so far apart. Word n of level j is at (level_of h x j) n as built, and at (exact_level h x j) n × 2^8 / 2^(14j) exactly. Assumes nothing.
use mathlib.Core.Path.{◌≡◌, refl, ap, ◌∙◌}
use mathlib.Core.List.{List}
use Prim.Native.Nat.{ℕ, zero, suc, ◌+◌, ◌*◌, ◌-◌, ◌/◌, ◌^◌, ◌≤◌, ◌<◌, pred}
use native.Mathlib.Nat.{le_refl, le_trans, mul-le-mul}
use native.Mathlib.Decide.{dec_le}
use native.Mathlib.Omega.{arith}
use lib.IntN.{ℤ, pos, nat_abs, ◌+ℤ◌, ◌-ℤ◌, ◌*ℤ◌}
use lib.ListN.{length}
use lib.Pow.{pow-add, pow_pos}
use Rattle.arith.specs.Floor.{near}
use Rattle.arith.specs.Lists.{at, word_at}
use Rattle.arith.proofs.Linear.{linear, abs-pos-*}
use Rattle.arith.proofs.Integers.{abs_triangle, abs-*-≤}
use Rattle.arith.proofs.Floor.{near_close}
use Rattle.arith.proofs.Lists.{at_outside, word_at_both, length-tabulate, get_or-tabulate}
use Rattle.arith.proofs.Sum.{sum_around_ext, sum_around-abs-*, sum_around_linear}
use Rattle.book.specs.Check.{tap_sum}
use Rattle.octave.specs.Octave.{half_length, level_sum, level_word}
use Rattle.store.specs.Sizes.{level_length}
use Rattle.levels.specs.Levels.{level_of}
use Rattle.levels.proofs.Laws.{length_level, at_first}
use Rattle.octave.proofs.Octave.{at_next}
use Rattle.drive.specs.Exact.{exact_level}
use Rattle.drive.proofs.Scaled.{apart_factor}

-- ---- sums over taps

module _ (h : List ℤ) (small : tap_sum h ≤ 32768) where
  -- two levels' sums lie at most 2^15 times as far apart as their words
  pub level_sum_apart : (c d : ℤ) (level level' : List ℤ) (X : ℕ) → ((i : ℤ) → nat_abs (c *ℤ word_at level i -ℤ d *ℤ word_at level' i) ≤ X)
      → (n : ℕ) → nat_abs (c *ℤ level_sum h level n -ℤ d *ℤ level_sum h level' n) ≤ 32768 * X
  unfolding level_sum tap_sum
  level_sum_apart c d level level' X close n =
      let A = pred (length h) in
      let word : ℤ → ℤ = λ k. word_at level (pos (2 * n) +ℤ k) in
      let word' : ℤ → ℤ = λ k. word_at level' (pos (2 * n) +ℤ k) in
      let apart : ℤ → ℤ = λ k. c *ℤ word k -ℤ d *ℤ word' k in
      rw (
        sum_around_linear A c d (λ k. at h (nat_abs k) *ℤ word k) (λ k. at h (nat_abs k) *ℤ word' k),
        sum_around_ext A {g = λ k. at h (nat_abs k) *ℤ apart k} (λ k l. apart_factor (at h (nat_abs k)) c d (word k) (word' k)),
      ) (le_trans (sum_around-abs-* A (at h) apart X (λ k l. close (pos (2 * n) +ℤ k))) (mul-le-mul small (le_refl X)))

-- ---- the exact levels

module _ (h x : List ℤ) where
  -- an exact level is as long as the built one
  pub exact_length : (j : ℕ) → length (exact_level h x j) ≡ level_length (length x) j
  unfolding exact_level level_length
  exact_length zero = refl
  exact_length (suc j) = length-tabulate (half_length (length (exact_level h x j))) (level_sum h (exact_level h x j)) ∙ ap half_length (exact_length j)

  -- level 0 is the samples, the words of levels above are sums, and words outside a level are 0
  exact_first : exact_level h x 0 ≡ x
  unfolding exact_level
  exact_first = refl

  exact_inside : (j k : ℕ) → k < level_length (length x) (suc j) → at (exact_level h x (suc j)) k ≡ level_sum h (exact_level h x j) k
  unfolding exact_level level_length
  exact_inside j k l = get_or-tabulate (half_length (length (exact_level h x j))) (level_sum h (exact_level h x j)) k (pos 0) (rw (exact_length j) l)

  exact_outside : (j k : ℕ) → ¬ (k < level_length (length x) j) → at (exact_level h x j) k ≡ pos 0
  exact_outside j k l = at_outside (exact_level h x j) k (omega (arith, exact_length j))

  -- the built words likewise
  built_first : (k : ℕ) → at (level_of h x 0) k ≡ at x k *ℤ pos 256
  unfolding level_of
  built_first k = at_first x k

  built_inside : (j k : ℕ) → k < level_length (length x) (suc j) → at (level_of h x (suc j)) k ≡ near (level_sum h (level_of h x j) k) 16384
  unfolding level_of level_length level_word
  built_inside j k l = at_next h (level_of h x j) k (rw (length_level h x j) l)

  built_outside : (j k : ℕ) → ¬ (k < level_length (length x) j) → at (level_of h x j) k ≡ pos 0
  built_outside j k l = at_outside (level_of h x j) k (omega (arith, length_level h x j))

-- ---- the exact levels of two recordings: each lies at most 2^15 times as far apart as the one below it

module _ (h x y : List ℤ) (small : tap_sum h ≤ 32768) (same : length x ≡ length y) (c d : ℤ) (X : ℕ) (close : (k : ℕ) → nat_abs (c *ℤ at x k -ℤ d *ℤ at y k) ≤ X) where
  abbrev Apart : ℕ → ℤ → ℤ → Type 0
  Apart j v w = nat_abs (c *ℤ v -ℤ d *ℤ w) ≤ 2 ^ (15 * j) * X

  none_apart : (j : ℕ) → Apart j (pos 0) (pos 0)
  none_apart j = simp linear (omega arith)

  exact_apart : (j k : ℕ) → Apart j (at (exact_level h x j) k) (at (exact_level h y j) k)
  exact_apart zero k = rw (exact_first h x, exact_first h y) (omega (arith, close k))
  exact_apart (suc j) k = go (dec_le (suc k) (level_length (length x) (suc j))) (word_at_both (Apart j) (exact_level h x j) (exact_level h y j) (none_apart j) (exact_apart j))
    where
      go : Dec (k < level_length (length x) (suc j)) → ((i : ℤ) → Apart j (word_at (exact_level h x j) i) (word_at (exact_level h y j) i))
          → Apart (suc j) (at (exact_level h x (suc j)) k) (at (exact_level h y (suc j)) k)
      go (yes l) below =
          let e : 15 * suc j ≡ 15 + 15 * j = omega arith in
          rw (exact_inside h x j k l, exact_inside h y j k (rw same at l), e, pow-add 2 15 (15 * j))
          (omega (arith, level_sum_apart h small c d (exact_level h x j) (exact_level h y j) (2 ^ (15 * j) * X) below k))
      go (no l) below = rw (exact_outside h x (suc j) k l, exact_outside h y (suc j) k (rw same at l)) (none_apart (suc j))

  -- the same at any index
  pub exact_word_apart : (j : ℕ) (i : ℤ) → Apart j (word_at (exact_level h x j) i) (word_at (exact_level h y j) i)
  exact_word_apart j = word_at_both (Apart j) (exact_level h x j) (exact_level h y j) (none_apart j) (exact_apart j)

-- ---- how far apart built and exact words lie

-- 2 · (c · 2^14 · w − 2^8 · s') is c · (2^15 · w − 2 · s) + 2 · (c · s − 2^8 · s'): the word's own rounding, and what its sum brings along
step_close : (c d : ℕ) (w s s' : ℤ) → nat_abs (pos 32768 *ℤ w -ℤ pos 2 *ℤ s) ≤ 16384 → nat_abs (pos c *ℤ s -ℤ pos 256 *ℤ s') ≤ 32768 * (c * d / 2)
    → 2 * nat_abs (pos (c * 16384) *ℤ w -ℤ pos 256 *ℤ s') ≤ c * 16384 * (1 + 2 * d)
step_close c d w s s' rounded brought =
    let whole = pos (c * 16384) *ℤ w -ℤ pos 256 *ℤ s' in
    let round = pos 32768 *ℤ w -ℤ pos 2 *ℤ s in
    let carry = pos c *ℤ s -ℤ pos 256 *ℤ s' in
    let e : pos 2 *ℤ whole ≡ pos c *ℤ round +ℤ pos 2 *ℤ carry = simp linear (omega arith) in
    rw (← abs-pos-* 2 whole, e) (omega (
      arith,
      abs_triangle (pos c *ℤ round) (pos 2 *ℤ carry),
      abs-*-≤ (pos c) round (le_refl c) rounded,
      abs-pos-* 2 carry,
    ))

-- word v of level j as built, and w of the exact one
abbrev pub WordClose : ℕ → ℤ → ℤ → Type 0
WordClose j v w = 2 * nat_abs (pos (2 ^ (14 * j)) *ℤ v -ℤ pos 256 *ℤ w) ≤ 2 ^ (14 * j) * (2 ^ j - 1)

none_close : (j : ℕ) → WordClose j (pos 0) (pos 0)
none_close j = simp linear (omega arith)

module _ (h x : List ℤ) (small : tap_sum h ≤ 32768) where
  -- a level adds half a unit of rounding to at most twice the distance of the level below: 1 + 2 · (2^j − 1) is 2^(j+1) − 1
  level_close : (j k : ℕ) → WordClose j (at (level_of h x j) k) (at (exact_level h x j) k)
  level_close zero k = rw (exact_first h x, built_first h x k) (simp linear (omega arith))
  level_close (suc j) k = go (dec_le (suc k) (level_length (length x) (suc j))) (word_at_both (WordClose j) W X (none_close j) (level_close j))
    where
      c : ℕ
      c = 2 ^ (14 * j)

      W : List ℤ
      W = level_of h x j

      X : List ℤ
      X = exact_level h x j

      go : Dec (k < level_length (length x) (suc j)) → ((i : ℤ) → WordClose j (word_at W i) (word_at X i)) → WordClose (suc j) (at (level_of h x (suc j)) k) (at (exact_level h x (suc j)) k)
      go (yes l) below =
          let e : 14 * suc j ≡ 14 * j + 14 = omega arith in
          let f : 2 ^ suc j - 1 ≡ 1 + 2 * (2 ^ j - 1) = omega (arith, pow_pos j) in
          rw (built_inside h x j k l, exact_inside h x j k l, e, pow-add 2 (14 * j) 14, f)
          (step_close c (2 ^ j - 1) (near (level_sum h W k) 16384) (level_sum h W k) (level_sum h X k)
          (near_close (level_sum h W k) {b = 16384} (omega arith))
          (level_sum_apart h small (pos c) (pos 256) W X (c * (2 ^ j - 1) / 2) (λ i. omega (arith, below i)) k))
      go (no l) below = rw (built_outside h x (suc j) k l, exact_outside h x (suc j) k l) (none_close (suc j))

  -- the same at any index
  pub word_close : (j : ℕ) (i : ℤ) → WordClose j (word_at (level_of h x j) i) (word_at (exact_level h x j) i)
  word_close j = word_at_both (WordClose j) (level_of h x j) (exact_level h x j) (none_close j) (level_close j)
