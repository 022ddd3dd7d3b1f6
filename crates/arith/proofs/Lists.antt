-- The laws of `word_at`, `part`, `tabulate` and `overwrite`, and of a loop that writes a list word by word. Assumes nothing.
use mathlib.Core.Path.{◌≡◌, refl, sym, ap, ap₂, ◌∙◌}
use mathlib.Core.List.{List, [], ◌∷◌, ◌++◌, append-nil, append_assoc}
use Prim.Native.Nat.{ℕ, zero, suc, ◌+◌, ◌-◌, ◌≤◌, ◌<◌}
use native.Mathlib.Nat.{le_of_suc-le-suc, not-suc-le-zero, le_refl}
use native.Mathlib.Decide.{ℕ_discrete}
use native.Mathlib.Numerals.{add-one}
use native.Mathlib.Omega.{arith}
use lib.IntN.{ℤ, pos, negsuc, nat_abs}
use lib.ListN.{length, get_or, take, drop, set, length-take, length-drop, get_or-eq_default}
use lib.Seq.{drop-length, length-take-le, take-suc, set_at, get_or-set_same, get_or-set_other, get_or-take, get_or-drop, take_all, take-append-le, take-take, paste, paste-zero, paste-suc, drop-paste}
use Rattle.arith.specs.Lists.{at, word_at, part, tabulate, overwrite}

-- ---- a part

pub part_length : {A : Type 0} (xs : List A) (a n : ℕ) → a + n ≤ length xs → length (part xs a n) ≡ n
part_length xs a n h = simp (length-take, length-drop) (omega arith)

pub at_part : (xs : List ℤ) (a n k : ℕ) → k < n → at (part xs a n) k ≡ at xs (a + k)
at_part xs a n k h = rw (get_or-take, get_or-drop)

-- ---- words

pub at_outside : (xs : List ℤ) (k : ℕ) → length xs ≤ k → at xs k ≡ pos 0
at_outside xs k h = get_or-eq_default xs (pos 0) h

-- what holds of the words of two lists at each place holds of those read at any index: outside they are 0
pub word_at_both : (R : ℤ → ℤ → Type 0) (xs ys : List ℤ) → R (pos 0) (pos 0) → ((k : ℕ) → R (at xs k) (at ys k)) → (i : ℤ) → R (word_at xs i) (word_at ys i)
unfolding word_at
word_at_both R xs ys none each (pos k) = each k
word_at_both R xs ys none each (negsuc k) = none

-- so a bound of every word
pub word_at_bound : (xs : List ℤ) (c : ℕ) → ((k : ℕ) → nat_abs (at xs k) ≤ c) → (i : ℤ) → nat_abs (word_at xs i) ≤ c
word_at_bound xs c = word_at_both (λ x y. nat_abs x ≤ c) xs xs (omega arith)

-- ---- a list made by a rule

pub length-tabulate : {A : Type 0} (n : ℕ) (f : ℕ → A) → length (tabulate n f) ≡ n
unfolding tabulate
length-tabulate zero f = refl
length-tabulate (suc n) f = ap suc (length-tabulate n (λ k. f (suc k)))

pub get_or-tabulate : {A : Type 0} (n : ℕ) (f : ℕ → A) (k : ℕ) (d : A) → k < n → get_or (tabulate n f) k d ≡ f k
unfolding tabulate
get_or-tabulate zero f k d h = absurd (not-suc-le-zero h)
get_or-tabulate (suc n) f zero d h = refl
get_or-tabulate (suc n) f (suc k) d h = get_or-tabulate n (λ i. f (suc i)) k d (le_of_suc-le-suc h)

pub tabulate_ext : {A : Type 0} (n : ℕ) {f g : ℕ → A} → ((k : ℕ) → k < n → f k ≡ g k) → tabulate n f ≡ tabulate n g
unfolding tabulate
tabulate_ext zero e = refl
tabulate_ext (suc n) e = ap₂ ◌∷◌ (e 0 (omega arith)) (tabulate_ext n (λ k h. e (suc k) (omega arith)))

-- ---- a loop that writes the list ys over xs from place a on, word by word: `paste xs a ys n` is xs after n words

module _ {A : Type 0} (xs : List A) (a : ℕ) (ys : List A) where
  pub paste_none : xs ≡ paste xs a ys 0
  paste_none = paste-zero xs a ys

  pub paste_more : (n : ℕ) (d v : A) → a + n < length xs → n < length ys → v ≡ get_or ys n d → set (paste xs a ys n) (a + n) v ≡ paste xs a ys (n + 1)
  paste_more n d v h l e = rw (add-one, e) (paste-suc xs a ys n d h l)

  -- behind what is written, each word is as it was
  pub paste-behind : (n i : ℕ) (d : A) → a ≤ length xs → n ≤ length ys → get_or (paste xs a ys n) (a + n + i) d ≡ get_or xs (a + n + i) d
  paste-behind n i d h l = sym (get_or-drop (a + n) (paste xs a ys n) i d) ∙ ap (λ zs. get_or zs i d) (drop-paste xs a ys n h l) ∙ get_or-drop (a + n) xs i d

  pub paste_all : (n : ℕ) → n ≡ length ys → paste xs a ys n ≡ overwrite xs a ys
  paste_all n e = rw e (ap (λ zs. take a xs ++ zs ++ drop (a + length ys) xs) (take_all (length ys) ys (le_refl (length ys))))

-- ---- a loop that writes a list backwards: one word more in front of those that are written

pub overwrite_front : {A : Type 0} (xs : List A) (a : ℕ) (ys : List A) (v : A) → a < length xs → set (overwrite xs (suc a) ys) a v ≡ overwrite xs a (v ∷ ys)
overwrite_front {A} xs a ys v h =
    let e : suc a + length ys ≡ a + suc (length ys) = omega arith in
    let front : length (take a xs) ≡ a = length-take-le a xs (omega arith) in
    let rest : List A = drop (suc a + length ys) xs in
    ap (λ zs. set (zs ++ ys ++ rest) a v) (take-suc xs a v h)
    ∙ ap (λ zs. set (zs ++ rest) a v) (append_assoc (take a xs) (get_or xs a v ∷ []) ys)
    ∙ ap (λ zs. set zs a v) (append_assoc (take a xs) (get_or xs a v ∷ ys) rest)
    ∙ set_at (take a xs) (get_or xs a v) (ys ++ rest) v a front
    ∙ sym (append_assoc (take a xs) (v ∷ ys) rest)
    ∙ ap (λ n. take a xs ++ (v ∷ ys) ++ drop n xs) e

pub overwrite_none : {A : Type 0} (xs : List A) (a : ℕ) → xs ≡ overwrite xs a []
overwrite_none xs a = paste-zero xs a []

-- the list so far, of f (n − 1), .., f 0
pub tabulate_back : {A : Type 0} (n : ℕ) (f : ℕ → A) → tabulate (n + 1) (λ j. f (n + 1 - suc j)) ≡ f n ∷ tabulate n (λ j. f (n - suc j))
unfolding tabulate
tabulate_back n f =
    let first : n + 1 - suc 0 ≡ n = omega arith in
    ap (λ m. tabulate m (λ j. f (n + 1 - suc j))) (add-one n)
    ∙ ap₂ ◌∷◌ (ap f first) (tabulate_ext n (λ j h. ap f (omega arith)))

-- ---- a loop that stores f k at k

pub filled_more : {A : Type 0} (d : A) (f : ℕ → A) (xs : List A) (k : ℕ) {v : A} → k < length xs → ((j : ℕ) → j < k → get_or xs j d ≡ f j) → v ≡ f k
    → (j : ℕ) → j < k + 1 → get_or (set xs k v) j d ≡ f j
filled_more d f xs k {v} h below e j l = go (ℕ_discrete j k)
  where
    go : Dec (j ≡ k) → get_or (set xs k v) j d ≡ f j
    go (yes p) = rw p (get_or-set_same xs k v d h ∙ e)
    go (no n) = get_or-set_other xs k j v d n ∙ below j (omega arith)

-- ---- what lies before the place that is written stays

pub take_before : {A : Type 0} (k a : ℕ) (xs zs : List A) → k ≤ a → a ≤ length xs → take k (take a xs ++ zs) ≡ take k xs
take_before k a xs zs h l = take-append-le k (take a xs) zs (simp length-take (omega arith)) ∙ take-take k a xs h

-- ---- a list that is written over another of its length

pub paste_whole : {A : Type 0} (xs ys : List A) (n : ℕ) → n ≡ length ys → length ys ≡ length xs → paste xs 0 ys n ≡ ys
paste_whole xs ys n e l =
    let end : 0 + length ys ≡ length xs = omega arith in
    paste_all xs 0 ys n e ∙ ap (λ m. ys ++ drop m xs) end ∙ ap (λ r. ys ++ r) (drop-length xs) ∙ append-nil ys
