-- The laws of `eq_z`, `within` and `every`. Assumes nothing.
use mathlib.Core.Path.{◌≡◌, refl, sym, ap, ap₂, ◌∙◌}
use mathlib.Core.Bool.{Bool, true, false, ◌&&◌, ◌||◌, cond}
use mathlib.Core.List.{List}
use Prim.Native.Nat.{ℕ, zero, suc, ◌+◌, ◌*◌, ◌≤◌, ◌<◌}
use native.Mathlib.Nat.{add-zero, add-suc, not-suc-le-zero}
use native.Mathlib.Numerals.{add-one}
use native.Mathlib.Decide.{ℕ_discrete}
use native.Mathlib.Omega.{arith}
use borrow.Author.Tests.{eqb-true, lt-ltb, le-ltb, lt-leb, le-leb, eq-eqb, ne_eqb, not-true, not-false}
use lib.Dec.{leb, eqb, leb-suc-suc}
use lib.IntN.{ℤ, pos, negsuc, nat_abs}
use lib.ListN.{length}
use lib.Signed.{le_z, ◌≤ℤ◌}
use mir.Syntax.{Width}
use mir.Val.{SFits, to_z, of_z}
use mir.ValLaws.{to_z-of_z}
use Rattle.arith.specs.Lists.{at, part}
use Rattle.arith.specs.Tests.{eq_z, within, every}
use Rattle.arith.proofs.Linear.{linear, le_yes}
use Rattle.arith.proofs.Integers.{abs-≤}
use Rattle.arith.proofs.Lists.{part_length, at_part}

-- ---- both of two tests

pub &&-left : (s t : Bool) → s && t ≡ true → s ≡ true
&&-left true t e = refl
&&-left false t e = e

pub &&-right : (s t : Bool) → s && t ≡ true → t ≡ true
&&-right true t e = e
&&-right false t e = let z : ◌≡◌ {A = ℕ} 0 1 = cc in absurd (omega arith)

pub &&-both : {s t : Bool} → s ≡ true → t ≡ true → s && t ≡ true
&&-both e f = rw (e, f)

pub &&-true : (b : Bool) → b && true ≡ b
&&-true true = refl
&&-true false = refl

&&-false : (b : Bool) → b && false ≡ false
&&-false true = refl
&&-false false = refl

-- ---- neither of two conditions

pub ||-left : (s t : Bool) → s || t ≡ false → s ≡ false
||-left true t e = e
||-left false t e = refl

pub ||-right : (s t : Bool) → s || t ≡ false → t ≡ false
||-right true t e = let z : ◌≡◌ {A = ℕ} 0 1 = cc in absurd (omega arith)
||-right false t e = e

-- ---- a test that a function made: its result t is the definition's u, and the code looked at `!t`

pub test_fails : {t u : Bool} → t ≡ u → t ≡ false → u ≡ false
test_fails e h = sym e ∙ h

pub test_holds : {t u : Bool} → t ≡ u → t ≡ true → u ≡ true
test_holds e h = sym e ∙ h

-- ---- equal integers

pub eq_z_refl : (x : ℤ) → eq_z x x ≡ true
unfolding eq_z
eq_z_refl (pos n) = eq-eqb n n refl
eq_z_refl (negsuc n) = eq-eqb n n refl

pub eq_z_yes : {x y : ℤ} → x ≡ y → eq_z x y ≡ true
eq_z_yes {x} {y} e = rw e (eq_z_refl y)

pub eq_z_true : (x y : ℤ) → eq_z x y ≡ true → x ≡ y
unfolding eq_z
eq_z_true (pos m) (pos n) e = ap pos (eqb-true m n e)
eq_z_true (pos m) (negsuc n) e = let z : ◌≡◌ {A = ℕ} 0 1 = cc in absurd (omega arith)
eq_z_true (negsuc m) (pos n) e = let z : ◌≡◌ {A = ℕ} 0 1 = cc in absurd (omega arith)
eq_z_true (negsuc m) (negsuc n) e = ap negsuc (eqb-true m n e)

pub eq_z_false : (x y : ℤ) → eq_z x y ≡ false → x ≡ y → ⊥
eq_z_false x y e h = let t = eq_z_yes h in let z : ◌≡◌ {A = ℕ} 0 1 = cc in omega arith

pub eq_z_no : (x y : ℤ) → (x ≡ y → ⊥) → eq_z x y ≡ false
unfolding eq_z
eq_z_no (pos m) (pos n) h = ne_eqb m n (λ e. h (ap pos e))
eq_z_no (pos m) (negsuc n) h = refl
eq_z_no (negsuc m) (pos n) h = refl
eq_z_no (negsuc m) (negsuc n) h = ne_eqb m n (λ e. h (ap negsuc e))

-- the code compares bits
pub eqb_bits : (w : Width) (x y : ℤ) → SFits w x → SFits w y → eqb (of_z w x) (of_z w y) ≡ eq_z x y
eqb_bits w x y f g = go (eq_z x y) refl
  where
    go : (t : Bool) → eq_z x y ≡ t → eqb (of_z w x) (of_z w y) ≡ t
    go true e = eq-eqb (of_z w x) (of_z w y) (ap (of_z w) (eq_z_true x y e))
    go false e = ne_eqb (of_z w x) (of_z w y) (λ d. eq_z_false x y e (sym (to_z-of_z w x f) ∙ ap (to_z w) d ∙ to_z-of_z w y g))

-- ---- every index below n

pub every_more : (n : ℕ) (f : ℕ → Bool) → every n f ≡ true → f n ≡ true → every (n + 1) f ≡ true
unfolding every
every_more n f h e = rw add-one (&&-both h e)

-- m counts the tests that fail, and r is one more or none by the next test
pub every_count : (n : ℕ) (f : ℕ → Bool) (m : ℕ) {r : ℕ} {t : Bool} → eqb m 0 ≡ every n f → t ≡ f n → r ≡ cond t 0 1 → eqb (m + r) 0 ≡ every (n + 1) f
unfolding every
every_count n f m e d s = rw (s, d, add-one, ← e) (go (f n))
  where
    go : (t : Bool) → eqb (m + cond t 0 1) 0 ≡ eqb m 0 && t
    go true = rw add-zero (sym (&&-true (eqb m 0)))
    go false = ne_eqb (m + 1) 0 (λ d. omega arith) ∙ sym (&&-false (eqb m 0))

-- a loop that asks whether the test holds at each index so far
pub every_none : (f : ℕ → Bool) → true ≡ every 0 f
unfolding every
every_none f = refl

pub every_next : (n : ℕ) (f : ℕ → Bool) {t b : Bool} → t ≡ every n f → b ≡ f n → t && b ≡ every (n + 1) f
unfolding every
every_next n f e h = rw (e, h, add-one)

pub every_all : (n : ℕ) (f : ℕ → Bool) → ((k : ℕ) → k < n → f k ≡ true) → every n f ≡ true
unfolding every
every_all zero f h = refl
every_all (suc n) f h = &&-both (every_all n f (λ k l. h k (omega arith))) (h n (omega arith))

pub every-at : (n : ℕ) (f : ℕ → Bool) → every n f ≡ true → (k : ℕ) → k < n → f k ≡ true
unfolding every
every-at zero f e k l = absurd (not-suc-le-zero l)
every-at (suc n) f e k l = go (ℕ_discrete k n) (every-at n f (&&-left (every n f) (f n) e) k)
  where
    go : Dec (k ≡ n) → (k < n → f k ≡ true) → f k ≡ true
    go (yes p) below = rw p (&&-right (every n f) (f n) e)
    go (no p) below = below (omega arith)

-- a counterexample
pub every_not : (n : ℕ) (f : ℕ → Bool) (k : ℕ) → k < n → f k ≡ false → every n f ≡ false
every_not n f k l e = go (every n f) refl
  where
    go : (b : Bool) → every n f ≡ b → b ≡ false
    go true h = sym (every-at n f h k l) ∙ e
    go false h = refl

pub every_ext : (n : ℕ) {f g : ℕ → Bool} → ((k : ℕ) → k < n → f k ≡ g k) → every n f ≡ every n g
unfolding every
every_ext zero e = refl
every_ext (suc n) e = ap₂ ◌&&◌ (every_ext n (λ k h. e k (omega arith))) (e n (omega arith))

&&-assoc : (r s t : Bool) → (r && s) && t ≡ r && (s && t)
&&-assoc true s t = refl
&&-assoc false s t = refl

pub every-split : (m n : ℕ) (f : ℕ → Bool) → every (m + n) f ≡ every m f && every n (λ k. f (m + k))
unfolding every
every-split m zero f = rw add-zero (sym (&&-true (every m f)))
every-split m (suc n) f = rw (add-suc, every-split m n f) (&&-assoc (every m f) (every n (λ k. f (m + k))) (f (m + n)))

-- m rows of n are m × n in one row
pub every_rows : (m n : ℕ) (f : ℕ → Bool) → every m (λ q. every n (λ k. f (q * n + k))) ≡ every (m * n) f
unfolding every
every_rows zero n f = let e : 0 * n ≡ 0 = omega arith in rw e
every_rows (suc m) n f =
    let e : suc m * n ≡ m * n + n = omega arith in
    rw e (ap (λ b. b && every n (λ k. f (m * n + k))) (every_rows m n f) ∙ sym (every-split (m * n) n f))

-- a test on the words of a part
pub every_part : (xs : List ℤ) (from count : ℕ) (f : ℤ → Bool) → from + count ≤ length xs → every (length (part xs from count)) (λ i. f (at (part xs from count) i)) ≡ every count (λ i. f (at xs (from + i)))
every_part xs from count f h = rw (part_length xs from count h) (every_ext count (λ i l. ap f (at_part xs from count i l)))

-- ---- between two bounds

pub within_true : (lo hi x : ℤ) → within lo hi x ≡ true → (lo ≤ℤ x) × (x ≤ℤ hi)
within_true lo hi x e = (le_yes (&&-left (le_z lo x) (le_z x hi) e), le_yes (&&-right (le_z lo x) (le_z x hi) e))

-- of a number that is not negative
pub within_size : (lo hi : ℕ) (x : ℤ) → within (pos lo) (pos hi) x ≡ true → (lo ≤ nat_abs x) × (nat_abs x ≤ hi) × (x ≡ pos (nat_abs x))
within_size lo hi (pos n) e =
    let b = within_true (pos lo) (pos hi) (pos n) e in
    (omega (arith, simp linear at b.0), omega (arith, simp linear at b.1), refl)
within_size lo hi (negsuc n) e = absurd (omega (arith, simp linear at (within_true (pos lo) (pos hi) (negsuc n) e).0))

-- −(lo + 1) ≤ x ≤ lo
pub within_half : (h : ℕ) (x : ℤ) → within (negsuc h) (pos h) x ≡ true → nat_abs x ≤ h + 1
within_half h x e = abs-≤ x (simp linear (omega (arith, simp linear at (within_true (negsuc h) (pos h) x e))))

-- at most so far from 0
pub within-abs : (n : ℕ) (x : ℤ) → within (negsuc n) (pos (suc n)) x ≡ leb (nat_abs x) (suc n)
within-abs n (pos m) = refl
within-abs n (negsuc m) = &&-true (leb m n) ∙ sym (leb-suc-suc m n)

-- ---- the tests of a branch on unsigned numbers, as the definitions state them

pub ruleset tests = (lt-ltb, le-ltb, lt-leb, le-leb, eq-eqb, ne_eqb)
