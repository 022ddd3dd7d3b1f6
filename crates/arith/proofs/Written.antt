-- Words made by a rule and written over a list: one behind another, or backwards, each in front of those before it. Assumes nothing.
use mathlib.Core.Path.{◌≡◌, refl, sym, ap, ap₂, ◌∙◌}
use mathlib.Core.List.{List, ◌∷◌, ◌++◌, append_assoc}
use Prim.Native.Nat.{ℕ, zero, suc, ◌+◌, ◌-◌, ◌≤◌, ◌<◌}
use native.Mathlib.Nat.{add-zero, suc-add}
use native.Mathlib.Numerals.{add-one}
use native.Mathlib.Omega.{arith}
use lib.ListN.{length, get_or, set, take, drop, length-append, length-drop}
use borrow.Rule.Slice.PartMut.{put_mid}
use Rattle.std.proofs.lemmas.List.{drop-drop, drop-append-le, take-append-drop, take_at, drop_at}
use lib.Seq.{get_or-take, length-take-le, paste}
use Rattle.arith.specs.Lists.{tabulate, overwrite}
use Rattle.arith.proofs.Lists.{length-tabulate, get_or-tabulate, paste_none, paste_more, paste_all, paste_whole, overwrite_none, overwrite_front, tabulate_back, take_before}

-- ---- one behind another

take-tabulate : {A : Type 0} (m n : ℕ) (f : ℕ → A) → take m (tabulate (m + n) f) ≡ tabulate m f
unfolding tabulate
take-tabulate zero n f = refl
take-tabulate (suc m) n f = rw (suc-add m n) (ap (λ l. f 0 ∷ l) (take-tabulate m n (λ k. f (suc k))))

module _ {A : Type 0} (xs : List A) (a : ℕ) (f : ℕ → A) where
  -- xs after n words
  abbrev pub written : ℕ → List A
  written n = overwrite xs a (tabulate n f)

  pub written_none : xs ≡ written 0
  unfolding tabulate
  written_none = paste_none xs a (tabulate 0 f)

  pub length_written : (n : ℕ) → a + n ≤ length xs → length (written n) ≡ length xs
  length_written n h = simp (length-append, length-drop, length-tabulate) (omega (arith, length-take-le a xs (omega arith)))

  written_more : (n : ℕ) (v : A) → a + n < length xs → v ≡ f n → set (written n) (a + n) v ≡ written (n + 1)
  written_more n v h e =
      let ys : List A = tabulate (n + 1) f in
      let so_far : written n ≡ paste xs a ys n = ap₂ (λ zs m. take a xs ++ zs ++ drop (a + m) xs) (sym (take-tabulate n 1 f)) (length-tabulate n f) in
      ap (λ l. set l (a + n) v) so_far
      ∙ paste_more xs a ys n v v h (omega (arith, length-tabulate (n + 1) f)) (e ∙ sym (get_or-tabulate (n + 1) f n v (omega arith)))
      ∙ paste_all xs a ys (n + 1) (sym (length-tabulate (n + 1) f))

  -- ys and zs before and after one word more
  pub written_next : (n : ℕ) (v : A) {place : ℕ} {ys zs : List A} → a + n < length xs → v ≡ f n → place ≡ a + n → ys ≡ written n → zs ≡ set ys place v → zs ≡ written (n + 1)
  written_next n v h e p y z = z ∙ ap₂ (λ l k. set l k v) y p ∙ written_more n v h e

-- words written behind those that were written
behind : {A : Type 0} (xs : List A) (a : ℕ) (f : ℕ → A) (m n : ℕ) → a + m + n ≤ length xs
    → written (written xs a f m) (a + m) (λ k. f (m + k)) n ≡ written xs a f (m + n)
behind xs a f m zero h = sym (written_none (written xs a f m) (a + m) (λ k. f (m + k))) ∙ ap (written xs a f) (sym (add-zero m))
behind xs a f m (suc n) h =
    let l : a + m + n < length (written xs a f m) = omega (arith, length_written xs a f m (omega arith)) in
    let e : n + 1 ≡ suc n = add-one n in
    let i : a + m + n ≡ a + (m + n) = omega arith in
    let j : m + n + 1 ≡ m + suc n = omega arith in
    ap (written (written xs a f m) (a + m) (λ k. f (m + k))) (sym e)
    ∙ sym (written_more (written xs a f m) (a + m) (λ k. f (m + k)) n (f (m + n)) l refl)
    ∙ ap₂ (λ ys k. set ys k (f (m + n))) (behind xs a f m n (omega arith)) i
    ∙ written_more xs a f (m + n) (f (m + n)) (omega arith) refl
    ∙ ap (written xs a f) j

pub written_behind : {A : Type 0} (xs : List A) (a : ℕ) (f : ℕ → A) (m n : ℕ) {ys zs : List A} → a + m + n ≤ length xs → ys ≡ written xs a f m
    → zs ≡ written ys (a + m) (λ k. f (m + k)) n → zs ≡ written xs a f (m + n)
written_behind xs a f m n h y z = z ∙ ap (λ l. written l (a + m) (λ k. f (m + k)) n) y ∙ behind xs a f m n h

-- ---- a part of a list, k words from place a on

module _ {A : Type 0} (xs : List A) (a k : ℕ) where
  -- words written over all of it
  pub part_all : (ys : List A) → length ys ≡ k → put_mid a k xs ys ≡ overwrite xs a ys
  part_all ys e =
      let place : a + k ≡ a + length ys = omega arith in
      ap (λ zs. take a xs ++ (ys ++ zs)) (drop-drop k a xs ∙ ap (λ i. drop i xs) place) ∙ sym (append_assoc (take a xs) ys (drop (a + length ys) xs))

  -- words written over its first ones
  pub part_written : (m : ℕ) (f : ℕ → A) (ys : List A) → a + k ≤ length xs → m ≤ k → ys ≡ overwrite (take k (drop a xs)) 0 (tabulate m f) → put_mid a k xs ys ≡ overwrite xs a (tabulate m f)
  part_written m f ys h l e =
      let new : List A = tabulate m f in
      let mid : List A = drop a xs in
      let n : length new ≡ m = length-tabulate m f in
      let rest : length (take k mid) ≡ k = length-take-le k mid (omega (arith, length-drop a xs)) in
      let place : a + (0 + length new) ≡ a + length new = omega arith in
      let kept : drop (0 + length new) (take k mid) ++ drop k mid ≡ drop (a + length new) xs =
      sym (drop-append-le (0 + length new) (take k mid) (drop k mid) (omega arith)) ∙ ap (drop (0 + length new)) (take-append-drop k mid)
      ∙ drop-drop (0 + length new) a xs ∙ ap (λ i. drop i xs) place in
      ap (λ zs. take a xs ++ (zs ++ drop k mid)) e
      ∙ ap (λ zs. take a xs ++ zs) (append_assoc new (drop (0 + length new) (take k mid)) (drop k mid) ∙ ap (λ zs. new ++ zs) kept)
      ∙ sym (append_assoc (take a xs) new (drop (a + length new) xs))

  -- what was written over all of it
  pub part_back : (ys : List A) → a ≤ length xs → k ≡ length ys → take k (drop a (overwrite xs a ys)) ≡ ys
  part_back ys h e =
      let rest : List A = drop (a + length ys) xs in
      let front : length (take a xs) ≡ a = length-take-le a xs h in
      ap (λ zs. take k (drop a zs)) (append_assoc (take a xs) ys rest) ∙ ap (take k) (drop_at (take a xs) (ys ++ rest) a front) ∙ take_at ys rest k (sym e)

-- a list written over from its first word to its last
pub all_written : {A : Type 0} (xs : List A) (n : ℕ) (f : ℕ → A) → n ≡ length xs → overwrite xs 0 (tabulate n f) ≡ tabulate n f
all_written xs n f e =
    let long : n ≡ length (tabulate n f) = sym (length-tabulate n f) in
    sym (paste_all xs 0 (tabulate n f) n long) ∙ paste_whole xs (tabulate n f) n long (length-tabulate n f ∙ e)

-- ---- backwards

module _ {A : Type 0} (xs : List A) (end : ℕ) (f : ℕ → A) where
  -- xs after n words, of which the first stands before place `end`
  abbrev pub newest : ℕ → List A
  newest n = overwrite xs (end - n) (tabulate n (λ j. f (n - suc j)))

  pub newest_none : xs ≡ newest 0
  unfolding tabulate
  newest_none = overwrite_none xs (end - 0)

  -- and one word more
  pub newest_next : (n : ℕ) (v : A) {m place : ℕ} {ys : List A} → end ≤ length xs → n < end → v ≡ f n → m ≡ n + 1 → place ≡ end - m → ys ≡ newest n → set ys place v ≡ newest m
  newest_next n v {m} {place} {ys} l h e next p y =
      let before : end - n ≡ suc place = omega arith in
      let after : place ≡ end - (n + 1) = omega arith in
      let so_far : List A = tabulate n (λ j. f (n - suc j)) in
      ap (λ zs. set zs place v) (y ∙ ap (λ a. overwrite xs a so_far) before)
      ∙ overwrite_front xs place so_far v (omega arith)
      ∙ ap₂ (λ w a. overwrite xs a (w ∷ so_far)) e after
      ∙ ap (overwrite xs (end - (n + 1))) (sym (tabulate_back n f))
      ∙ ap newest (sym next)

  -- what lies before them stays
  pub newest_before : (n : ℕ) (d : A) (k : ℕ) → end ≤ length xs → k < end - n → get_or (newest n) k d ≡ get_or xs k d
  newest_before n d k l h =
      let ys : List A = tabulate n (λ j. f (n - suc j)) in
      let rest : List A = drop (end - n + length ys) xs in
      sym (get_or-take (suc k) (newest n) k d (omega arith))
      ∙ ap (λ zs. get_or zs k d) (ap (take (suc k)) (append_assoc (take (end - n) xs) ys rest) ∙ take_before (suc k) (end - n) xs (ys ++ rest) h (omega arith))
      ∙ get_or-take (suc k) xs k d (omega arith)
