-- The laws of finite sums. Assumes nothing.
use mathlib.Core.Path.{◌≡◌, refl, sym, ap, ap₂, ◌∙◌}
use Prim.Native.Nat.{ℕ, zero, suc, ◌+◌, ◌-◌, ◌*◌, ◌≤◌, ◌<◌}
use native.Mathlib.Nat.{add-zero, add-suc, le_refl}
use native.Mathlib.Numerals.{add-one}
use native.Mathlib.Decide.{dec_le}
use native.Mathlib.Omega.{arith}
use lib.IntN.{ℤ, pos, negsuc, nat_abs, ◌+ℤ◌, ◌-ℤ◌, ◌*ℤ◌}
use Rattle.arith.specs.Sum.{sum, total, sum_around}
use Rattle.arith.proofs.Linear.{linear, poly}
use Rattle.arith.proofs.Ring.{products, terms}
use Rattle.arith.proofs.Integers.{abs_triangle, abs-*-≤, *ℤ-+ℤ}

-- one more term, at the code's `n + 1`
pub sum_more : (n : ℕ) (f : ℕ → ℤ) → sum (n + 1) f ≡ sum n f +ℤ f n
unfolding sum
sum_more n f = rw add-one

pub sum_ext : (n : ℕ) {f g : ℕ → ℤ} → ((k : ℕ) → k < n → f k ≡ g k) → sum n f ≡ sum n g
unfolding sum
sum_ext zero e = refl
sum_ext (suc n) e = ap₂ ◌+ℤ◌ (sum_ext n (λ k h. e k (omega arith))) (e n (omega arith))

pub sum-+ : (n : ℕ) (f g : ℕ → ℤ) → sum n (λ k. f k +ℤ g k) ≡ sum n f +ℤ sum n g
unfolding sum
sum-+ zero f g = refl
sum-+ (suc n) f g = rw (sum-+ n f g) (simp linear (omega arith))

pub sum-* : (n : ℕ) (c : ℤ) (f : ℕ → ℤ) → sum n (λ k. c *ℤ f k) ≡ c *ℤ sum n f
unfolding sum
sum-* zero c f = simp poly (omega arith)
sum-* (suc n) c f = rw (sum-* n c f) (sym (*ℤ-+ℤ c (sum n f) (f n)))

pub sum-zero : (n : ℕ) → sum n (λ k. pos 0) ≡ pos 0
unfolding sum
sum-zero zero = refl
sum-zero (suc n) = rw (sum-zero n)

-- a double sum, in either order
pub sum_swap : (m n : ℕ) (f : ℕ → ℕ → ℤ) → sum m (λ i. sum n (λ j. f i j)) ≡ sum n (λ j. sum m (λ i. f i j))
unfolding sum
sum_swap zero n f = sym (sum-zero n)
sum_swap (suc m) n f = rw (sum_swap m n f) (sym (sum-+ n (λ j. sum m (λ i. f i j)) (λ j. f m j)))

pub sum-split : (m n : ℕ) (f : ℕ → ℤ) → sum (m + n) f ≡ sum m f +ℤ sum n (λ k. f (m + k))
unfolding sum
sum-split m zero f = rw add-zero (simp linear (omega arith))
sum-split m (suc n) f = rw (add-suc, sum-split m n f) (simp linear (omega arith))

-- the first term apart
pub sum_first : (n : ℕ) (f : ℕ → ℤ) → sum (suc n) f ≡ f 0 +ℤ sum n (λ k. f (suc k))
unfolding sum
sum_first zero f = simp linear (omega arith)
sum_first (suc n) f = rw (sum_first n f) (simp linear (omega arith))

-- |Σ f k| ≤ Σ g k where |f k| ≤ g k
pub sum-abs : (n : ℕ) (f : ℕ → ℤ) {g : ℕ → ℕ} → ((k : ℕ) → k < n → nat_abs (f k) ≤ g k) → nat_abs (sum n f) ≤ total n g
unfolding sum total
sum-abs zero f h = omega arith
sum-abs (suc n) f h = omega (arith, abs_triangle (sum n f) (f n), sum-abs n f (λ k l. h k (omega arith)), h n (omega arith))

pub total-* : (n : ℕ) (g : ℕ → ℕ) (c : ℕ) → total n (λ k. g k * c) ≡ total n g * c
unfolding total
total-* zero g c = omega arith
total-* (suc n) g c = omega (arith, total-* n g c)

pub total-same : (n c : ℕ) → total n (λ k. c) ≡ n * c
unfolding total
total-same zero c = omega arith
total-same (suc n) c = omega (arith, total-same n c)

-- |Σ a k · x k| ≤ (Σ |a k|) · c where |x k| ≤ c
pub sum-abs-* : (n : ℕ) (a x : ℕ → ℤ) (c : ℕ) → ((k : ℕ) → k < n → nat_abs (x k) ≤ c) → nat_abs (sum n (λ k. a k *ℤ x k)) ≤ total n (λ k. nat_abs (a k)) * c
sum-abs-* n a x c h = rw (← total-* n (λ k. nat_abs (a k)) c) (sum-abs n (λ k. a k *ℤ x k) (λ k l. abs-*-≤ (a k) (x k) (le_refl (nat_abs (a k))) (h k l)))

-- ---- sums of natural numbers

pub total_more : (n : ℕ) (f : ℕ → ℕ) → total (n + 1) f ≡ total n f + f n
unfolding total
total_more n f = rw add-one

pub total_ext : (n : ℕ) {f g : ℕ → ℕ} → ((k : ℕ) → k < n → f k ≡ g k) → total n f ≡ total n g
unfolding total
total_ext zero e = refl
total_ext (suc n) e = ap₂ ◌+◌ (total_ext n (λ k h. e k (omega arith))) (e n (omega arith))

pub total-≤ : (n : ℕ) {f g : ℕ → ℕ} → ((k : ℕ) → k < n → f k ≤ g k) → total n f ≤ total n g
unfolding total
total-≤ zero h = omega arith
total-≤ (suc n) h = omega (arith, total-≤ n (λ k l. h k (omega arith)), h n (omega arith))

-- a shorter sum is no larger
pub total_mono : (m n : ℕ) (f : ℕ → ℕ) → m ≤ n → total m f ≤ total n f
unfolding total
total_mono m zero f h = let e : m ≡ 0 = omega arith in rw e (omega arith)
total_mono m (suc n) f h = go (dec_le m n) (total_mono m n f)
  where
    go : Dec (m ≤ n) → (m ≤ n → total m f ≤ total n f) → total m f ≤ total (suc n) f
    go (yes l) shorter = omega (arith, shorter l)
    go (no l) shorter = let e : m ≡ suc n = omega arith in rw e (omega arith)

-- the first term apart
pub total_first : (n : ℕ) (f : ℕ → ℕ) → total (suc n) f ≡ f 0 + total n (λ k. f (suc k))
unfolding total
total_first zero f = omega arith
total_first (suc n) f = omega (arith, total_first n f)

pub total-+ : (n : ℕ) (f g : ℕ → ℕ) → total n (λ k. f k + g k) ≡ total n f + total n g
unfolding total
total-+ zero f g = omega arith
total-+ (suc n) f g = omega (arith, total-+ n f g)

pub total-split : (m n : ℕ) (f : ℕ → ℕ) → total (m + n) f ≡ total m f + total n (λ k. f (m + k))
unfolding total
total-split m zero f = rw (add-zero m) (omega arith)
total-split m (suc n) f = rw add-suc (omega (arith, total-split m n f))

-- the last term first
pub total-reverse : (n : ℕ) (f : ℕ → ℕ) → total n (λ i. f (n - suc i)) ≡ total n f
unfolding total
total-reverse zero f = refl
total-reverse (suc n) f =
    let last : f (suc n - 1) ≡ f n = ap f (omega arith) in
    let rest : total n (λ i. f (suc n - suc (suc i))) ≡ total n (λ i. f (n - suc i)) = total_ext n (λ i h. ap f (omega arith)) in
    omega (arith, total_first n (λ i. f (suc n - suc i)), last, rest, total-reverse n f)

-- each distance from the middle but 0 comes twice
pub total_around : (a : ℕ) (f : ℕ → ℕ) → total (2 * a + 1) (λ k. f (nat_abs (pos k -ℤ pos a))) ≡ f 0 + 2 * total a (λ k. f (suc k))
total_around a f =
    let g : ℕ → ℕ = λ k. f (nat_abs (pos k -ℤ pos a)) in
    let count : 2 * a + 1 ≡ a + suc a = omega arith in
    let before : total a g ≡ total a (λ k. f (suc (a - suc k))) = total_ext a (λ k h. ap f (simp linear (omega arith))) in
    let after : total (suc a) (λ k. g (a + k)) ≡ total (suc a) f = total_ext (suc a) (λ k h. ap f (simp linear (omega arith))) in
    rw count (omega (arith, total-split a (suc a) g, before, after, total-reverse a (λ k. f (suc k)), total_first a f))

-- ---- sums over −a .. a

pub sum_around_ext : (a : ℕ) {f g : ℤ → ℤ} → ((k : ℤ) → nat_abs k ≤ a → f k ≡ g k) → sum_around a f ≡ sum_around a g
unfolding sum_around
sum_around_ext zero e = e (pos 0) (omega arith)
sum_around_ext (suc a) e = ap₂ ◌+ℤ◌ (sum_around_ext a (λ k h. e k (omega arith))) (ap₂ ◌+ℤ◌ (e (negsuc a) (omega arith)) (e (pos (suc a)) (omega arith)))

-- |Σ h |k| · x k| ≤ (|h 0| + 2 · (|h 1| + .. + |h a|)) · c where |x k| ≤ c
pub sum_around-abs-* : (a : ℕ) (h : ℕ → ℤ) (x : ℤ → ℤ) (c : ℕ) → ((k : ℤ) → nat_abs k ≤ a → nat_abs (x k) ≤ c)
    → nat_abs (sum_around a (λ k. h (nat_abs k) *ℤ x k)) ≤ (nat_abs (h 0) + 2 * total a (λ k. nat_abs (h (suc k)))) * c
unfolding sum_around total
sum_around-abs-* zero h x c l = omega (arith, abs-*-≤ (h 0) (x (pos 0)) (le_refl (nat_abs (h 0))) (l (pos 0) (omega arith)))
sum_around-abs-* (suc a) h x c l =
    let inner = sum_around a (λ k. h (nat_abs k) *ℤ x k) in
    let before = h (suc a) *ℤ x (negsuc a) in
    let after = h (suc a) *ℤ x (pos (suc a)) in
    omega (
      arith,
      abs_triangle inner (before +ℤ after),
      abs_triangle before after,
      sum_around-abs-* a h x c (λ k m. l k (omega arith)),
      abs-*-≤ (h (suc a)) (x (negsuc a)) (le_refl (nat_abs (h (suc a)))) (l (negsuc a) (omega arith)),
      abs-*-≤ (h (suc a)) (x (pos (suc a))) (le_refl (nat_abs (h (suc a)))) (l (pos (suc a)) (omega arith)),
    )

-- ---- a multiple of one sum less a multiple of another

pub sum_linear : (n : ℕ) (c d : ℤ) (f g : ℕ → ℤ) → c *ℤ sum n f -ℤ d *ℤ sum n g ≡ sum n (λ k. c *ℤ f k -ℤ d *ℤ g k)
unfolding sum
sum_linear zero c d f g = simp poly (omega arith)
sum_linear (suc n) c d f g = rw (← sum_linear n c d f g) (simp products (simp terms (omega arith)))

pub sum_around_linear : (a : ℕ) (c d : ℤ) (f g : ℤ → ℤ) → c *ℤ sum_around a f -ℤ d *ℤ sum_around a g ≡ sum_around a (λ k. c *ℤ f k -ℤ d *ℤ g k)
unfolding sum_around
sum_around_linear zero c d f g = refl
sum_around_linear (suc a) c d f g = rw (← sum_around_linear a c d f g) (simp products (simp terms (omega arith)))

-- f (−a) + .. + f a: each step adds a term at both ends
pub sum_around_lem : (a : ℕ) (f : ℤ → ℤ) → sum (2 * a + 1) (λ k. f (pos k -ℤ pos a)) ≡ sum_around a f
unfolding sum sum_around
sum_around_lem zero f = simp linear (omega arith)
sum_around_lem (suc a) f =
    let n : ℕ = 2 * a + 1 in
    let g : ℕ → ℤ = λ k. f (pos k -ℤ pos (suc a)) in
    let count : 2 * suc a + 1 ≡ suc (suc n) = omega arith in
    let first : g 0 ≡ f (negsuc a) = ap f (simp linear (omega arith)) in
    let last : g (suc n) ≡ f (pos (suc a)) = ap f (simp linear (omega arith)) in
    let inner : sum n (λ k. g (suc k)) ≡ sum_around a f = sum_ext n (λ k h. ap f (simp linear (omega arith))) ∙ sum_around_lem a f in
    rw count (ap₂ ◌+ℤ◌ (sum_first n g ∙ ap₂ ◌+ℤ◌ first inner) last ∙ regroup (f (negsuc a)) (sum_around a f) (f (pos (suc a))))
  where
    regroup : (x y z : ℤ) → x +ℤ y +ℤ z ≡ y +ℤ (x +ℤ z)
    regroup x y z = simp linear (omega arith)
