-- The laws of bounds in 16 bits: they only rise, and what they bound stays bounded. Assumes nothing.
use Rattle.std.proofs.Common.{◌≡◌, ℕ, zero, suc, ◌+◌, ◌-◌, ◌*◌, ◌/◌, ◌%◌, ◌<◌, ◌≤◌, Bool, true, false, cond, leb, List, length, set, ℤ, pos, negsuc, ◌+ℤ◌, ◌-ℤ◌, nat_abs, ◌≤ℤ◌, ◌<ℤ◌, sym, refl, ap, ◌∙◌, le_trans, arith, length-set, get_or-set_other, get_or-set_same, w16, SFits, le-leb}
use native.Mathlib.Decide.{ℕ_discrete, dec_lt}
use borrow.Rule.Slice.PartMut.{put_mid, same_len_mid}
use Rattle.std.proofs.lemmas.Slice.{take-put_mid_below, between-put_mid, drop-put_mid}
use Rattle.std.proofs.lemmas.List.{get_or-take, get_or-drop}
use lib.Signed.{lt_z, le_z, ≤ℤ_refl}
use Rattle.std.specs.Int.{int_max}
use Rattle.arith.specs.Limit.{limit}
use Rattle.arith.specs.Lists.{at, part}
use Rattle.arith.specs.Sum.{total}
use Rattle.arith.specs.Tests.{within, every}
use Rattle.arith.proofs.Integers.{≤ℤ-trans, <ℤ-≤ℤ}
use Rattle.arith.proofs.Linear.{linear, signed, lt_yes, lt_no}
use Rattle.arith.proofs.Lists.{at_part, part_length}
use Rattle.arith.proofs.Sum.{total-≤, total_mono}
use Rattle.arith.proofs.Tests.{&&-both, eq_z_yes, every_all, every_ext, every_rows, every-split}
use Rattle.book.specs.Book.{sizes_of, level_taps_at, decimation_taps_at, book_length, level_taps, decimation_taps}
use Rattle.book.specs.Check.{words_in_range, coefficients_in_range, phase_sum, tap_sum, sums_in_range}
use Rattle.book.specs.Columns.{Bounds, Tested, Passed, Raised, tap_bound}
use Rattle.book.proofs.Around.{tap_bound_lem}
use Rattle.book.proofs.Bounds.{row_below}
use Rattle.book.proofs.Parts.{phase_sum_stored}
use Rattle.book.proofs.Runs.{right_at, same_words}

-- ---- the larger of two

pub at_least : {r x y : ℤ} → r ≡ int_max x y → (x ≤ℤ r) × (y ≤ℤ r)
at_least {r} {x} {y} = go (lt_z y x) refl
  where
    go : (t : Bool) → lt_z y x ≡ t → r ≡ cond t x y → (x ≤ℤ r) × (y ≤ℤ r)
    go true e p = rw p (≤ℤ_refl x, <ℤ-≤ℤ (lt_yes e))
    go false e p = rw p (lt_no e, ≤ℤ_refl y)

-- ---- bounds

-- a higher bound
pub bounds_more : {c d x : ℤ} → c ≤ℤ d → Bounds c x → Bounds d x
bounds_more {c} {d} {x} h b = record { size = go }
  where
    go : d <ℤ pos 32767 → pos (nat_abs x) ≤ℤ (d +ℤ pos 1)
    go l =
        let m : c <ℤ pos 32767 = simp linear (omega signed) in
        let s = b.size m in
        simp linear (omega (signed, simp linear at s))

pub tested_more : {c d x y z : ℤ} → c ≤ℤ d → Tested c x y z → Tested d x y z
tested_more {c} {d} h t = record { right = λ l. t.right (simp linear (omega signed)) }

-- a bound that is kept where its test holds, and else the one that bounds nothing
pub kept_tested : {c d x y z : ℤ} (t : Bool) → SFits w16 c → d ≡ cond t c (pos 32767) → (t ≡ true → nat_abs y ≤ 32767 → nat_abs z ≤ 32767 → x ≡ y -ℤ z) → (c ≤ℤ d) × Tested d x y z
kept_tested {c} true f e r = (rw e (≤ℤ_refl c), record { right = λ l. r refl })
kept_tested {c} {d} false f e r = (rw e (simp linear (omega (arith, simp linear at f))), record { right = λ l. absurd (omega (signed, simp linear at e)) })

pub passed_more : {c d x y z : ℤ} → c ≤ℤ d → Passed c x y z → Passed d x y z
passed_more h p = record { bounded = bounds_more h p.bounded; tested = tested_more h p.tested }

-- f is at least x and −1 − x
fold_bounds : (x f : ℤ) → x ≤ℤ f → (negsuc 0 -ℤ x) ≤ℤ f → pos (nat_abs x) ≤ℤ (f +ℤ pos 1)
fold_bounds (pos n) f h k = simp linear (omega (arith, simp linear at h))
fold_bounds (negsuc n) f h k = simp linear (omega (arith, simp linear at k))

-- y is x limited to 16 bits, and f at least y and −1 − y: where f is not the largest number of 16 bits, y is x
pub bounds_word : (x y f : ℤ) → y ≡ limit (negsuc 32767) (pos 32767) x → (y ≤ℤ f) × ((negsuc 0 -ℤ y) ≤ℤ f) → Bounds f x
unfolding limit
bounds_word x y f p (h, k) = record { size = go (lt_z x (negsuc 32767)) (lt_z (pos 32767) x) p }
  where
    go : (s t : Bool) → y ≡ cond s (negsuc 32767) (cond t (pos 32767) x) → f <ℤ pos 32767 → pos (nat_abs x) ≤ℤ (f +ℤ pos 1)
    go true t e l = absurd (omega (signed, simp linear at e, simp linear at k))
    go false true e l = absurd (omega (signed, simp linear at e))
    go false false e l = fold_bounds x f (rw (← e) h) (rw (← e) k)

-- ---- lists of bounds

pub raised_same : (xs : List ℤ) → Raised xs xs
raised_same xs = record { words = refl; rise = λ k. ≤ℤ_refl (at xs k) }

pub raised_more : {xs ys zs : List ℤ} → Raised xs ys → Raised ys zs → Raised xs zs
raised_more r s = record { words = s.words ∙ r.words; rise = λ k. ≤ℤ-trans (r.rise k) (s.rise k) }

-- a loop that writes at place k
pub raised_set : (xs : List ℤ) (k : ℕ) (v : ℤ) → k < length xs → at xs k ≤ℤ v → Raised xs (set xs k v)
raised_set xs k v h l = record { words = length-set xs k v; rise = λ j. go j (ℕ_discrete j k) }
  where
    go : (j : ℕ) → Dec (j ≡ k) → at xs j ≤ℤ at (set xs k v) j
    go j (yes p) = rw (p, get_or-set_same xs k v (pos 0) h) l
    go j (no n) = rw (get_or-set_other xs k j v (pos 0) n) (≤ℤ_refl (at xs j))

-- and what held of the bounds passed, and holds of this one
pub raised_next : (P : ℕ → ℤ → Type 0) → ((j : ℕ) (c d : ℤ) → c ≤ℤ d → P j c → P j d) → (xs : List ℤ) (k : ℕ) (v : ℤ) → k < length xs → at xs k ≤ℤ v
    → P k v → ((j : ℕ) → j < k → P j (at xs j)) → (j : ℕ) → j < k + 1 → P j (at (set xs k v) j)
raised_next P stays xs k v h l p below j m = go (ℕ_discrete j k)
  where
    go : Dec (j ≡ k) → P j (at (set xs k v) j)
    go (yes e) = rw (e, get_or-set_same xs k v (pos 0) h) p
    go (no d) = stays j _ _ ((raised_set xs k v h l).rise j) (below j (omega arith))

-- a section of the bounds, raised to ys
module _ (xs ys : List ℤ) (a n : ℕ) (room : a + n ≤ length xs) (raised : Raised (part xs a n) ys) where
  abbrev after : List ℤ
  after = put_mid a n xs ys

  many : length ys ≡ n
  many = raised.words ∙ part_length xs a n room

  -- before it, in it and behind it
  pub section_before : (k : ℕ) → k < a → at after k ≡ at xs k
  section_before k h =
      let e = take-put_mid_below a n xs ys a (omega arith) (omega arith) in
      sym (get_or-take a after k (pos 0) h) ∙ ap (λ zs. at zs k) e ∙ get_or-take a xs k (pos 0) h

  pub section_in : (k : ℕ) → k < n → at after (a + k) ≡ at ys k
  section_in k h =
      let count : a + n - a ≡ n = omega arith in
      let e : part after a n ≡ ys = rw count at (between-put_mid a n xs ys (a + n) (omega arith) (omega (arith, many))) in
      sym (at_part after a n k h) ∙ ap (λ zs. at zs k) e

  section_behind : (k : ℕ) → a + n ≤ k → at after k ≡ at xs k
  section_behind k h =
      let e = drop-put_mid a n xs ys k h (omega arith) many in
      let i : k + 0 ≡ k = omega arith in
      rw i at (sym (get_or-drop k after 0 (pos 0)) ∙ ap (λ zs. at zs 0) e ∙ get_or-drop k xs 0 (pos 0))

  pub section_raised : Raised xs after
  section_raised = record { words = same_len_mid a n xs ys raised.words; rise = λ k. go k (dec_lt k a) (dec_lt k (a + n)) }
    where
      go : (k : ℕ) → Dec (k < a) → Dec (k < a + n) → at xs k ≤ℤ at after k
      go k (yes h) _ = rw (section_before k h) (≤ℤ_refl (at xs k))
      go k (no h) (yes l) =
          let i : a + (k - a) ≡ k = omega arith in
          let m : k - a < n = omega arith in
          rw i at (rw (← section_in (k - a) m, at_part xs a n (k - a) m) at (raised.rise (k - a)))
      go k (no h) (no l) = rw (section_behind k (omega arith)) (≤ℤ_refl (at xs k))

-- ---- what the bounds settle

bound_reached : (c : ℤ) (n : ℕ) → c <ℤ pos 32767 → pos n ≤ℤ (c +ℤ pos 1) → (n ≤ nat_abs c + 1) × (n ≤ 32767)
bound_reached c n h l = simp linear (omega (signed, simp linear at l))

-- the bounds of tap k, of which there are four
module _ (bounds : List ℤ) (taps k : ℕ) where
  abbrev first : ℤ
  first = int_max (at bounds k) (at bounds (taps + k))

  abbrev second : ℤ
  second = int_max (at bounds (2 * taps + k)) (at bounds (3 * taps + k))

  both : (first ≤ℤ int_max first second) × (second ≤ℤ int_max first second)
  both = at_least {x = first} {y = second} refl

  four : (j : ℕ) → j < 4 → at bounds (j * taps + k) ≤ℤ int_max first second
  four zero h = let e : 0 * taps + k ≡ k = omega arith in rw e (≤ℤ-trans (at_least {x = at bounds k} {y = at bounds (taps + k)} refl).0 both.0)
  four (suc zero) h = let e : 1 * taps + k ≡ taps + k = omega arith in rw e (≤ℤ-trans (at_least {x = at bounds k} {y = at bounds (taps + k)} refl).1 both.0)
  four (suc (suc zero)) h = ≤ℤ-trans (at_least {x = at bounds (2 * taps + k)} {y = at bounds (3 * taps + k)} refl).0 both.1
  four (suc (suc (suc zero))) h = ≤ℤ-trans (at_least {x = at bounds (2 * taps + k)} {y = at bounds (3 * taps + k)} refl).1 both.1
  four (suc (suc (suc (suc j)))) h = absurd (omega arith)

  -- where they bound the tap, each is a bound
  bound_low : tap_bound bounds taps k ≤ 65536 → (int_max first second <ℤ pos 32767) × (tap_bound bounds taps k ≡ nat_abs (int_max first second) + 1)
  unfolding tap_bound
  bound_low = go (lt_z (int_max first second) (pos 32767)) refl
    where
      go : (t : Bool) → lt_z (int_max first second) (pos 32767) ≡ t → cond t (nat_abs (int_max first second) + 1) 65537 ≤ 65536
          → (int_max first second <ℤ pos 32767) × (cond t (nat_abs (int_max first second) + 1) 65537 ≡ nat_abs (int_max first second) + 1)
      go true e l = (lt_yes e, refl)
      go false e l = absurd (omega arith)

  -- a word that one of them bounds
  tap_word : tap_bound bounds taps k ≤ 65536 → (j : ℕ) → j < 4 → {x : ℤ} → Bounds (at bounds (j * taps + k)) x → (nat_abs x ≤ tap_bound bounds taps k) × (nat_abs x ≤ 32767)
  tap_word h j l {x} b =
      let m = bound_low h in
      rw m.1 (bound_reached (int_max first second) (nat_abs x) m.0 ((bounds_more (four j l) b).size m.0))

part_of : (n : ℕ) (f : ℕ → ℕ) (k : ℕ) → k < n → f k ≤ total n f
unfolding total
part_of n f k h = omega (arith, total_mono (suc k) n f h)

half : (x : ℤ) → nat_abs x ≤ 32767 → within (negsuc 32767) (pos 32767) x ≡ true
half x h = &&-both {s = le_z (negsuc 32767) x} {t = le_z x (pos 32767)} (simp linear (omega (arith, simp linear at h))) (simp linear (omega (arith, simp linear at h)))

-- M phases of N words, in rows of four phases
module _ (b bounds : List ℤ) (rows M N : ℕ) (phases_are : M ≡ (sizes_of b).phases) (taps_are : N ≡ (sizes_of b).taps) (whole : M ≡ rows * 4)
    (all : (p i : ℕ) → p < rows → i < 4 * N → Bounds (at bounds i) (at b (5 + p * (4 * N) + i))) (low : total N (tap_bound bounds N) ≤ 65536) where
  tap_low : (k : ℕ) → k < N → tap_bound bounds N k ≤ 65536
  tap_low k l = omega (arith, part_of N (tap_bound bounds N) k l)

  -- where tap k of phase q stands in the rows
  place : (q k : ℕ) → 5 + q / 4 * (4 * N) + (q % 4 * N + k) ≡ 5 + (q * N + k)
  place q k =
      let parts : q ≡ q / 4 * 4 + q % 4 = omega arith in
      omega (arith, ap (λ z. z * N) parts)

  impulse_bound : (q k : ℕ) → q < M → k < N → (nat_abs (at b (5 + (q * N + k))) ≤ tap_bound bounds N k) × (nat_abs (at b (5 + (q * N + k))) ≤ 32767)
  impulse_bound q k h l =
      rw (sym (place q k)) (tap_word bounds N k (tap_low k l) (q % 4) (omega arith) (all (q / 4) (q % 4 * N + k) (omega arith) (row_below {q = q % 4} {m = 4} (omega arith) l)))

  sum_is : (q : ℕ) → q < M → phase_sum b q ≡ total N (λ k. nat_abs (at b (5 + (q * N + k))))
  sum_is q h = rw taps_are (phase_sum_stored b q (omega (arith, phases_are)))

  abbrev in_range : ℕ → Bool
  in_range i = within (negsuc 32767) (pos 32767) (at b (5 + i))

  pub impulses_settled : (words_in_range b 5 (M * N) ≡ true) × (every M (λ q. leb (phase_sum b q) 65536) ≡ true)
  unfolding words_in_range
  impulses_settled = (
    sym (every_rows M N in_range) ∙ every_all M (λ q. every N (λ k. in_range (q * N + k))) (λ q h. every_all N (λ k. in_range (q * N + k)) (λ k l. half (at b (5 + (q * N + k))) (impulse_bound q k h l).1)),
    every_all M (λ q. leb (phase_sum b q) 65536) (λ q h. le-leb (phase_sum b q) 65536 (rw (sum_is q h) (le_trans (total-≤ N (λ k l. (impulse_bound q k h l).0)) low))),
  )

  -- the differences of every row but the last
  module _ (tests : (p i : ℕ) → p + 1 < rows → i < 4 * N → Passed (at bounds i) (at b (5 + p * (4 * N) + M * N + i)) (at b (5 + p * (4 * N) + N + i)) (at b (5 + p * (4 * N) + i))) where
    abbrev right : ℕ → Bool
    right = right_at b (5 + M * N) (5 + N) 5

    difference_right : (q k : ℕ) → q + 4 < M → k < N → right (q * N + k) ≡ true
    difference_right q k h l =
        let i = q % 4 * N + k in
        let here = place q k in
        let next : 5 + q / 4 * (4 * N) + N + i ≡ 5 + ((q + 1) * N + k) = omega (arith, here) in
        let t = tested_more (four bounds N k (q % 4) (omega arith)) (tests (q / 4) i (omega arith) (row_below {q = q % 4} {m = 4} (omega arith) l)).tested in
        let e = t.right (bound_low bounds N k (tap_low k l)).0 (rw next (impulse_bound (q + 1) k (omega arith) l).1) (rw here (impulse_bound q k (omega arith) l).1) in
        same_words b (omega (arith, here)) (omega (arith, here)) (sym here) ∙ eq_z_yes e

    pub differences_settled : 1 ≤ rows → (4 * N ≤ M * N) × (every (M * N - 4 * N) right ≡ true)
    differences_settled h =
        let m = M - 4 in
        let phases : M ≡ m + 4 = omega arith in
        let array : M * N ≡ m * N + 4 * N = omega (arith, ap (λ z. z * N) phases) in
        let count : M * N - 4 * N ≡ m * N = omega (arith, array) in
        let rows_right = every_all m (λ q. every N (λ k. right (q * N + k))) (λ q l. every_all N (λ k. right (q * N + k)) (λ k n. difference_right q k (omega arith) n)) in
        (omega (arith, array), ap (λ j. every j right) count ∙ sym (every_rows m N right) ∙ rows_right)

-- ---- what the sums of taps settle

module _ (b : List ℤ) where
  taps_settled : (a n : ℕ) → a + n ≤ length b → tap_sum (part b a n) ≤ 32767 → words_in_range b a n ≡ true
  unfolding words_in_range
  taps_settled a n h l =
      every_all n (λ i. within (negsuc 32767) (pos 32767) (at b (a + i)))
      (λ i m. half (at b (a + i)) (rw (sym (at_part b a n i m)) (le_trans (tap_bound_lem (part b a n) i (omega (arith, part_length b a n h))) l)))

  words_behind : (a m n : ℕ) → words_in_range b a m ≡ true → words_in_range b (a + m) n ≡ true → words_in_range b a (m + n) ≡ true
  unfolding words_in_range
  words_behind a m n e d =
      let f : ℕ → Bool = λ i. within (negsuc 32767) (pos 32767) (at b (a + i)) in
      every-split m n f ∙ &&-both e (every_ext n (λ k h. ap (λ i. within (negsuc 32767) (pos 32767) (at b i)) (omega arith)) ∙ d)

  -- so no number 4 and no number 7
  pub settled : {M N : ℕ} → M ≡ (sizes_of b).phases → N ≡ (sizes_of b).taps → length b ≡ book_length (sizes_of b)
      → (words_in_range b 5 (M * N) ≡ true) × (every M (λ q. leb (phase_sum b q) 65536) ≡ true) → tap_sum (level_taps b) ≤ 32767 → tap_sum (decimation_taps b) ≤ 32767
      → (coefficients_in_range b ≡ true) × (sums_in_range b ≡ true)
  unfolding coefficients_in_range sums_in_range level_taps decimation_taps book_length decimation_taps_at
  settled m n l (words, sums) h g =
      let s = sizes_of b in
      let level = taps_settled (level_taps_at s) (s.reach + 1) (omega arith) h in
      let decimation = taps_settled (decimation_taps_at s) (s.decimation + 1) (omega arith) g in (
        &&-both (rw (m, n) at words) (words_behind (level_taps_at s) (s.reach + 1) (s.decimation + 1) level decimation),
        &&-both (&&-both (rw m at sums) (le-leb (tap_sum (level_taps b)) 32768 (omega arith))) (le-leb (tap_sum (decimation_taps b)) 32768 (omega arith)),
      )
