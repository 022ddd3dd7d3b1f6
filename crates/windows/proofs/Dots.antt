-- Sums of products: how large they are, and how they are taken apart. Assumes nothing.
use mathlib.Core.Path.{◌≡◌, sym, ap, ap₂, ◌∙◌}
use mathlib.Core.List.{List}
use Prim.Native.Nat.{ℕ, zero, suc, ◌+◌, ◌-◌, ◌*◌, ◌^◌, ◌≤◌, ◌<◌}
use native.Mathlib.Nat.{le_refl, le_trans, mul-le-mul_right}
use native.Mathlib.Decide.{ℕ_discrete, dec_lt}
use native.Mathlib.Omega.{arith}
use lib.IntN.{ℤ, pos, nat_abs, ◌+ℤ◌, ◌*ℤ◌, *ℤ_comm}
use lib.Signed.{◌≤ℤ◌, ◌<ℤ◌}
use Rattle.arith.specs.Lists.{at}
use Rattle.arith.specs.Sum.{sum, total}
use Rattle.arith.proofs.Integers.{abs-≤, ≤-abs, abs-*-≤, *ℤ-≤ℤ}
use Rattle.arith.proofs.Linear.{linear}
use Rattle.arith.proofs.Ring.{products, terms}
use Rattle.arith.proofs.Sum.{sum_ext, sum-+, sum-*, sum-zero, sum-split, sum-abs-*, total_more, total_mono}
use Rattle.windows.specs.Parts.{Small, Samples}
use Rattle.rows.specs.Rows.{Positive}
use Rattle.dot_products.specs.Sums.{dot_sum, Fits32}

-- the sizes of the coefficients times the largest word
pub dot_sum_bound : (words : List ℤ) (a : ℕ) (table : List ℤ) (r n c : ℕ) → ((k : ℕ) → k < n → nat_abs (at words (a + k)) ≤ c)
    → nat_abs (dot_sum words a table r n) ≤ total n (λ k. nat_abs (at table (r + k))) * c
unfolding dot_sum
dot_sum_bound words a table r n c h =
    let w : ℕ → ℤ = λ k. at words (a + k) in
    let g : ℕ → ℤ = λ k. at table (r + k) in
    rw (sum_ext n {f = λ k. w k *ℤ g k} {g = λ k. g k *ℤ w k} (λ k m. *ℤ_comm (w k) (g k))) (sum-abs-* n g w c h)

-- ---- no sum on the way is larger than 32 bits hold, where the sizes of the coefficients add up to 2^16 at most

below_fits : {x : ℤ} → nat_abs x < 2 ^ 31 → Fits32 x
below_fits h = (simp linear (omega (arith, simp linear at h)), simp linear (omega (arith, simp linear at h)))

close_fits : {x : ℤ} {t : ℕ} → t ≤ 65536 → nat_abs x ≤ t * 32768 → x <ℤ pos (32768 * t) → Fits32 x
close_fits few h l = (simp linear (omega (arith, few, simp linear at h)), simp linear (omega (arith, few, simp linear at l)))

module _ (words : List ℤ) (a : ℕ) (table : List ℤ) (r W : ℕ) (few : total W (λ k. nat_abs (at table (r + k))) ≤ 65536) where
  abbrev sum_to : ℕ → ℤ
  sum_to n = dot_sum words a table r n

  abbrev word : ℕ → ℤ
  word k = at words (a + k)

  abbrev tap : ℕ → ℤ
  tap k = at table (r + k)

  abbrev size : ℕ → ℕ
  size n = total n (λ k. nat_abs (at table (r + k)))

  size_few : (n : ℕ) → n ≤ W → size n ≤ 65536
  size_few n h = le_trans (total_mono n W (λ k. nat_abs (tap k)) h) few

  -- of words that are smaller than 2^15
  pub small_fits : Small words → (n : ℕ) → n ≤ W → Fits32 (sum_to n)
  small_fits small n h = below_fits {x = sum_to n} (omega (arith, mul-le-mul_right 32767 (size_few n h), dot_sum_bound words a table r n 32767 (λ k m. small (a + k))))

  -- of any samples, if a coefficient is positive: -2^15 times it is no positive product, so that the sum misses 2^31 by it
  module _ (samples : Samples words) (p : Positive table r W) where
    word_size : (k : ℕ) → nat_abs (word k) ≤ 32768
    word_size k = let s = simp linear at (samples (a + k)) in abs-≤ (word k) (simp linear (omega (arith, s)), simp linear (omega (arith, s)))

    bound : (n : ℕ) → nat_abs (sum_to n) ≤ size n * 32768
    bound n = dot_sum_bound words a table r n 32768 (λ k m. word_size k)

    product_high : (k : ℕ) → (word k *ℤ tap k) ≤ℤ pos (32768 * nat_abs (tap k))
    product_high k = (≤-abs (abs-*-≤ (word k) (tap k) (word_size k) (le_refl (nat_abs (tap k))))).0

    product_below : (word p.place *ℤ tap p.place) <ℤ pos (32768 * nat_abs (tap p.place))
    product_below =
        let k = p.place in
        let c = p.above in
        let most : (word k *ℤ tap k) ≤ℤ (pos 32767 *ℤ tap k) = *ℤ-≤ℤ (simp linear (omega (arith, simp linear at c))) (samples (a + k)).1 in
        simp linear (omega (arith, simp linear at c, simp linear at most))

    sum_below : (n : ℕ) → p.place < n → sum_to n <ℤ pos (32768 * size n)
    unfolding dot_sum sum total
    sum_below zero h = absurd (omega arith)
    sum_below (suc n) h = go (ℕ_discrete n p.place) (sum_below n)
      where
        go : Dec (n ≡ p.place) → (p.place < n → sum_to n <ℤ pos (32768 * size n)) → sum_to (suc n) <ℤ pos (32768 * size (suc n))
        go (yes e) before =
            let last = rw (← e) at product_below in
            simp linear (omega (arith, simp linear at (bound n), simp linear at last))
        go (no d) before = simp linear (omega (arith, simp linear at (before (omega arith)), simp linear at (product_high n)))

    pub samples_fit : (n : ℕ) → n ≤ W → Fits32 (sum_to n)
    samples_fit n h = go (dec_lt p.place n)
      where
        go : Dec (p.place < n) → Fits32 (sum_to n)
        go (yes l) = close_fits {x = sum_to n} (size_few n h) (bound n) (sum_below n l)
        go (no l) =
            let k = p.place in
            let c = p.above in
            let tap-size : 1 ≤ nat_abs (tap k) = simp linear (omega (arith, simp linear at c)) in
            let fewer = total_mono n k (λ j. nat_abs (tap j)) (omega arith) in
            let whole = size_few (k + 1) (omega (arith, p.inside)) in
            below_fits {x = sum_to n} (omega (arith, bound n, fewer, whole, total_more k (λ j. nat_abs (tap j)), tap-size))

-- ---- taken apart

times_zero : (x : ℤ) → x *ℤ pos 0 ≡ pos 0
times_zero x = simp linear (omega arith)

-- coefficients that are 0 add nothing
pub dot_sum_rest : (words : List ℤ) (a : ℕ) (table : List ℤ) (r N W : ℕ) → N ≤ W → ((k : ℕ) → N ≤ k → k < W → at table (r + k) ≡ pos 0) → dot_sum words a table r W ≡ dot_sum words a table r N
unfolding dot_sum
dot_sum_rest words a table r N W h zeros =
    let f : ℕ → ℤ = λ k. at words (a + k) *ℤ at table (r + k) in
    let whole : W ≡ N + (W - N) = omega arith in
    ap (λ n. sum n f) whole
    ∙ sum-split N (W - N) f
    ∙ ap (λ x. sum N f +ℤ x) (sum_ext (W - N) (λ k m. ap (λ y. at words (a + (N + k)) *ℤ y) (zeros (N + k) (omega arith) (omega arith)) ∙ times_zero (at words (a + (N + k)))) ∙ sum-zero (W - N))
    ∙ plus_zero (sum N f)
  where
    plus_zero : (x : ℤ) → x +ℤ pos 0 ≡ x
    plus_zero x = simp linear (omega arith)

-- a coefficient that is 0, or one of the first n words
module _ {n : ℕ} (table : List ℤ) (r W : ℕ) (rest : (k : ℕ) → n ≤ k → k < W → at table (r + k) ≡ pos 0) where
  each : (P : ℤ → ℕ → Type 0) → ((k : ℕ) → k < n → P (at table (r + k)) k) → ((k : ℕ) → P (pos 0) k) → (k : ℕ) → k < W → P (at table (r + k)) k
  each P here none k h = go (dec_lt k n)
    where
      go : Dec (k < n) → P (at table (r + k)) k
      go (yes l) = here k l
      go (no d) = rw (rest k (omega arith) h) (none k)

  -- of words that are multiples
  pub dot_sum_scaled : (window words : List ℤ) (a : ℕ) (u : ℤ) → ((k : ℕ) → k < n → at window (a + k) ≡ at words (a + k) *ℤ u) → dot_sum window a table r W ≡ dot_sum words a table r W *ℤ u
  unfolding dot_sum
  dot_sum_scaled window words a u h =
      let f : ℕ → ℤ = λ k. at words (a + k) *ℤ at table (r + k) in
      sum_ext W
      (each (λ g k. at window (a + k) *ℤ g ≡ u *ℤ (at words (a + k) *ℤ g)) (λ k m. ap (λ x. x *ℤ at table (r + k)) (h k m) ∙ moved (at words (a + k)) (at table (r + k)))
      (λ k. nothing (at window (a + k)) (at words (a + k))))
      ∙ sum-* W u f ∙ *ℤ_comm u (sum W f)
    where
      moved : (x g : ℤ) → (x *ℤ u) *ℤ g ≡ u *ℤ (x *ℤ g)
      moved x g = simp products (simp terms (omega arith))

      nothing : (y x : ℤ) → y *ℤ pos 0 ≡ u *ℤ (x *ℤ pos 0)
      nothing y x = times_zero y ∙ sym (ap (λ z. u *ℤ z) (times_zero x) ∙ times_zero u)

  -- of words in two parts
  pub dot_sum_parts : (window high low : List ℤ) (a : ℕ) (u : ℤ) → ((k : ℕ) → k < n → at window (a + k) ≡ at high (a + k) *ℤ u +ℤ at low (a + k))
      → dot_sum window a table r W ≡ dot_sum high a table r W *ℤ u +ℤ dot_sum low a table r W
  unfolding dot_sum
  dot_sum_parts window high low a u h =
      let f : ℕ → ℤ = λ k. at high (a + k) *ℤ at table (r + k) in
      let g : ℕ → ℤ = λ k. at low (a + k) *ℤ at table (r + k) in
      sum_ext W
      (each (λ c k. at window (a + k) *ℤ c ≡ u *ℤ (at high (a + k) *ℤ c) +ℤ at low (a + k) *ℤ c)
      (λ k m. ap (λ x. x *ℤ at table (r + k)) (h k m) ∙ moved (at high (a + k)) (at low (a + k)) (at table (r + k))) (λ k. nothing (at window (a + k)) (at high (a + k)) (at low (a + k))))
      ∙ sum-+ W (λ k. u *ℤ f k) g
      ∙ ap (λ x. x +ℤ sum W g) (sum-* W u f ∙ *ℤ_comm u (sum W f))
    where
      moved : (x y g : ℤ) → (x *ℤ u +ℤ y) *ℤ g ≡ u *ℤ (x *ℤ g) +ℤ y *ℤ g
      moved x y g = simp products (simp terms (omega arith))

      nothing : (z x y : ℤ) → z *ℤ pos 0 ≡ u *ℤ (x *ℤ pos 0) +ℤ y *ℤ pos 0
      nothing z x y = times_zero z ∙ sym (ap₂ ◌+ℤ◌ (ap (λ v. u *ℤ v) (times_zero x) ∙ times_zero u) (times_zero y))
