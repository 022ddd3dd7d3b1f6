-- Parts of lists that are joined or written over. Assumes nothing.
use mathlib.Core.Path.{◌≡◌, refl, sym, ap, ap₂, ◌∙◌}
use mathlib.Core.List.{List, [], ◌∷◌, ◌++◌, append_assoc, append-nil}
use Prim.Native.Nat.{ℕ, zero, suc, ◌+◌, ◌-◌, ◌≤◌, ◌<◌}
use native.Mathlib.Decide.{dec_lt}
use native.Mathlib.Omega.{arith}
use lib.IntN.{ℤ, pos}
use lib.ListN.{length, take, drop, replicate, length-append, length-take, length-drop}
use lib.Seq.{length-take-le, take-add, take_all, take_at, drop_at, drop-drop, drop-length, drop-append-add, get_or-take, get_or-drop, paste, take-paste, drop-paste, length-paste}
use Rattle.arith.specs.Lists.{at, part, tabulate, overwrite}
use Rattle.arith.proofs.Lists.{part_length, at_outside, paste_all}

pub part_middle : {A : Type 0} (xs ys zs : List A) (a n : ℕ) → length xs ≡ a → length ys ≡ n → part (xs ++ (ys ++ zs)) a n ≡ ys
part_middle xs ys zs a n e f = ap (take n) (drop_at xs (ys ++ zs) a e) ∙ take_at ys zs n f

-- what is written behind a part leaves it
pub part-paste : {A : Type 0} (xs ys : List A) (a n k : ℕ) → a + n ≤ length xs → part (paste xs (a + n) ys k) a n ≡ part xs a n
part-paste xs ys a n k h =
    rw (take-add a n xs, append_assoc (take a xs ++ part xs a n), append_assoc (take a xs))
    (part_middle (take a xs) (part xs a n) (take k ys ++ drop (a + n + k) xs) a n (length-take-le a xs (omega arith)) (part_length xs a n h))

-- the next words written behind the first n
pub paste-part : {A : Type 0} (xs ys : List A) (a n m : ℕ) → a + (n + m) ≤ length xs → n + m ≤ length ys → overwrite (paste xs a ys n) (a + n) (part ys n m) ≡ paste xs a ys (n + m)
paste-part {A} xs ys a n m h l =
    let written : List A = paste xs a ys n in
    let front : take (a + n) written ++ part ys n m ≡ take a xs ++ take (n + m) ys =
    ap (λ r. r ++ part ys n m) (take-paste xs a ys n (omega arith) (omega arith)) ∙ append_assoc (take a xs) (take n ys) (part ys n m) ∙ ap (λ r. take a xs ++ r) (sym (take-add n m ys)) in
    let end : a + n + length (part ys n m) ≡ a + n + m = omega (arith, part_length ys n m l) in
    let same : a + n + m ≡ a + (n + m) = omega arith in
    let back : drop (a + n + length (part ys n m)) written ≡ drop (a + (n + m)) xs =
    ap (λ k. drop k written) end ∙ sym (drop-drop m (a + n) written) ∙ ap (drop m) (drop-paste xs a ys n (omega arith) (omega arith)) ∙ drop-drop m (a + n) xs ∙ ap (λ k. drop k xs) same in
    ap₂ ◌++◌ front back

-- one list written at a place, and another behind it
pub overwrite-next : {A : Type 0} (xs ys zs : List A) (a : ℕ) → a ≤ length xs → overwrite (overwrite xs a ys) (a + length ys) zs ≡ overwrite xs a (ys ++ zs)
overwrite-next {A} xs ys zs a h =
    let b : ℕ = a + length ys in
    let front : List A = take a xs ++ ys in
    let to : length front ≡ b = simp length-append (omega (arith, length-take-le a xs h)) in
    let end : b + length zs ≡ a + length (ys ++ zs) = omega (arith, length-append ys zs) in
    let back : drop (b + length zs) (front ++ drop b xs) ≡ drop (a + length (ys ++ zs)) xs =
    sym (drop-drop (length zs) b (front ++ drop b xs)) ∙ ap (drop (length zs)) (drop_at front (drop b xs) b to) ∙ drop-drop (length zs) b xs ∙ ap (λ n. drop n xs) end in
    ap₂ (λ p r. p ++ zs ++ r) (take_at front (drop b xs) b to) back ∙ ap (λ p. p ++ drop (a + length (ys ++ zs)) xs) (append_assoc (take a xs) ys zs)

-- at the front
pub overwrite-behind : {A : Type 0} (xs ys zs : List A) (a : ℕ) → length ys ≡ a → overwrite (overwrite xs 0 ys) a zs ≡ overwrite xs 0 (ys ++ zs)
overwrite-behind xs ys zs a e = let n : a ≡ 0 + length ys = omega arith in ap (λ k. overwrite (overwrite xs 0 ys) k zs) n ∙ overwrite-next xs ys zs 0 (omega arith)

-- what lies from place a on, lent as a slice of k words and put back with a list written at its front
pub overwrite_lent : {A : Type 0} (xs ys : List A) (a k : ℕ) → a + k ≡ length xs → take a xs ++ (overwrite (part xs a k) 0 ys ++ drop k (drop a xs)) ≡ overwrite xs a ys
overwrite_lent xs ys a k e =
    let whole : part xs a k ≡ drop a xs = take_all k (drop a xs) (simp length-drop (omega arith)) in
    let none : drop k (drop a xs) ≡ [] = drop-drop k a xs ∙ ap (λ n. drop n xs) e ∙ drop-length xs in
    let end : a + (0 + length ys) ≡ a + length ys = omega arith in
    ap₂ (λ w r. take a xs ++ (overwrite w 0 ys ++ r)) whole none
    ∙ ap (λ r. take a xs ++ r) (append-nil (overwrite (drop a xs) 0 ys))
    ∙ ap (λ r. take a xs ++ (ys ++ r)) (drop-drop (0 + length ys) a xs ∙ ap (λ n. drop n xs) end)
    ∙ sym (append_assoc (take a xs) ys (drop (a + length ys) xs))

-- a longer list written over a shorter one
pub overwrite_again : {A : Type 0} (xs ys zs : List A) → length ys ≤ length zs → overwrite (overwrite xs 0 ys) 0 zs ≡ overwrite xs 0 zs
overwrite_again xs ys zs h =
    let d : ℕ = length zs - length ys in
    let e : 0 + length zs ≡ length ys + d = omega arith in
    let f : 0 + length ys + d ≡ 0 + length zs = omega arith in
    ap (λ r. zs ++ r) (ap (λ n. drop n (ys ++ drop (0 + length ys) xs)) e ∙ drop-append-add ys (drop (0 + length ys) xs) d ∙ drop-drop d (0 + length ys) xs ∙ ap (λ n. drop n xs) f)

pub length-overwrite : {A : Type 0} (xs ys : List A) (a : ℕ) → a + length ys ≤ length xs → length (overwrite xs a ys) ≡ length xs
length-overwrite xs ys a h = ap length (sym (paste_all xs a ys (length ys) refl)) ∙ length-paste xs a ys (length ys) h (omega arith)

-- from the place that is written on
pub drop-overwrite : {A : Type 0} (xs ys : List A) (a : ℕ) → a ≤ length xs → drop a (overwrite xs a ys) ≡ ys ++ drop (a + length ys) xs
drop-overwrite xs ys a h =
    ap (drop a) (append_assoc (take a xs) ys (drop (a + length ys) xs)) ∙ drop_at (take a xs) (ys ++ drop (a + length ys) xs) a (length-take-le a xs h)

-- what is written up to the end is what lies there
pub overwrite_end : {A : Type 0} (xs ys : List A) (a : ℕ) → a + length ys ≡ length xs → drop a (overwrite xs a ys) ≡ ys
overwrite_end xs ys a e = drop-overwrite xs ys a (omega arith) ∙ ap (λ n. ys ++ drop n xs) e ∙ ap (λ r. ys ++ r) (drop-length xs) ∙ append-nil ys

-- the words of a list, one by one
tabulate-take : (zs : List ℤ) (n : ℕ) (f : ℕ → ℤ) → n ≤ length zs → ((k : ℕ) → k < n → f k ≡ at zs k) → tabulate n f ≡ take n zs
unfolding tabulate
tabulate-take zs zero f h g = refl
tabulate-take [] (suc n) f h g = absurd (omega arith)
tabulate-take (z ∷ zs) (suc n) f h g = ap₂ ◌∷◌ (g 0 (omega arith)) (tabulate-take zs n (λ k. f (suc k)) (omega arith) (λ k l. g (suc k) (omega arith)))

pub tabulate-part : (zs : List ℤ) (a n : ℕ) (f : ℕ → ℤ) → a + n ≤ length zs → ((k : ℕ) → k < n → f k ≡ at zs (a + k)) → tabulate n f ≡ part zs a n
tabulate-part zs a n f h g = tabulate-take (drop a zs) n f (simp length-drop (omega arith)) (λ k l. g k l ∙ sym (get_or-drop a zs k (pos 0)))

-- n words more of ys
pub paste_run : (xs ys : List ℤ) (i n : ℕ) (f : ℕ → ℤ) → i + n ≤ length xs → i + n ≤ length ys → ((k : ℕ) → k < n → f k ≡ at ys (i + k))
    → overwrite (paste xs 0 ys i) i (tabulate n f) ≡ paste xs 0 ys (i + n)
paste_run xs ys i n f room h g =
    let rest : tabulate n f ≡ part ys i n = tabulate-part ys i n f h g in
    let e : i ≡ 0 + i = omega arith in
    ap₂ (overwrite (paste xs 0 ys i)) e rest ∙ paste-part xs ys 0 i n (omega arith) h

-- ---- what holds of every word

module _ (Q : ℤ → Type 0) (none : Q (pos 0)) where
  append_all : (xs ys : List ℤ) → ((k : ℕ) → Q (at xs k)) → ((k : ℕ) → Q (at ys k)) → (k : ℕ) → Q (at (xs ++ ys) k)
  append_all [] ys h g k = g k
  append_all (x ∷ xs) ys h g zero = h 0
  append_all (x ∷ xs) ys h g (suc k) = append_all xs ys (λ i. h (suc i)) g k

  pub take-every : (n : ℕ) (xs : List ℤ) → ((k : ℕ) → Q (at xs k)) → (k : ℕ) → Q (at (take n xs) k)
  take-every n xs h k = go (dec_lt k n)
    where
      go : Dec (k < n) → Q (at (take n xs) k)
      go (yes l) = rw (get_or-take n xs k (pos 0) l) (h k)
      go (no l) = rw (at_outside (take n xs) k (simp length-take (omega arith))) none

  pub drop-every : (n : ℕ) (xs : List ℤ) → ((k : ℕ) → Q (at xs k)) → (k : ℕ) → Q (at (drop n xs) k)
  drop-every n xs h k = rw (get_or-drop n xs k (pos 0)) (h (n + k))

  pub overwrite-every : (xs ys : List ℤ) (a : ℕ) → ((k : ℕ) → Q (at xs k)) → ((k : ℕ) → Q (at ys k)) → (k : ℕ) → Q (at (overwrite xs a ys) k)
  overwrite-every xs ys a h g = append_all (take a xs ++ ys) (drop (a + length ys) xs) (append_all (take a xs) ys (take-every a xs h) g) (drop-every (a + length ys) xs h)

  pub zeros_every : (n k : ℕ) → Q (at (replicate n (pos 0)) k)
  zeros_every zero k = none
  zeros_every (suc n) zero = none
  zeros_every (suc n) (suc k) = zeros_every n k
