-- Sums of pairs of taps times words in one part or two: they are the sums around the words of a level, they are small, and rounded they are words of
-- the level above. Assumes nothing.
use mathlib.Core.Path.{◌≡◌, refl, sym, ap, ap₂, ◌∙◌}
use mathlib.Core.List.{List}
use Prim.Native.Nat.{ℕ, zero, suc, ◌+◌, ◌-◌, ◌*◌, ◌≤◌, ◌<◌, pred}
use native.Mathlib.Nat.{le_refl, le_trans, mul-le-mul}
use native.Mathlib.Decide.{dec_le}
use native.Mathlib.Omega.{arith}
use lib.IntN.{ℤ, pos, negsuc, nat_abs, ◌+ℤ◌, ◌-ℤ◌, ◌*ℤ◌}
use lib.ListN.{length}
use lib.Signed.{◌<ℤ◌}
use Rattle.arith.specs.Floor.{floor_div}
use Rattle.arith.specs.Limit.{limit}
use Rattle.arith.specs.Lists.{at, word_at}
use Rattle.arith.specs.Sum.{sum, total, sum_around}
use Rattle.arith.proofs.Integers.{abs_triangle, abs-*-≤, abs-≤}
use Rattle.arith.proofs.Limit.{limit_between, limit-same}
use Rattle.arith.proofs.Linear.{linear}
use Rattle.arith.proofs.Lists.{at_outside}
use Rattle.arith.proofs.Ring.{products, terms}
use Rattle.arith.proofs.Sum.{sum_ext, sum-+, sum-*, sum_more, sum-abs-*, sum_around_lem, total_mono, total_more, total_around}
use Rattle.book.specs.Check.{tap_sum}
use Rattle.book.proofs.Around.{tap_bound_lem}
use Rattle.pair_sums.specs.Pairs.{upper_part, lower_part, sample_part, Samples, pair_product, pair_sum, place_of, shift, line_sum, Small}
use Rattle.pair_sums.proofs.Pairs.{lower_between}
use Rattle.octave.specs.Octave.{level_sum}
use Rattle.octave.specs.Inner.{Rows}

-- ---- parts of a word

module _ (x : ℤ) where
  pub lower_small : nat_abs (lower_part x) ≤ 32768
  lower_small = simp linear (omega (arith, simp linear at (lower_between x).0, simp linear at (lower_between x).1))

  pub sample_small : nat_abs (sample_part x) ≤ 32768
  sample_small =
      let b = limit_between (negsuc 32767) (pos 32767) (floor_div x 256) (simp linear (omega arith)) in
      abs-≤ (sample_part x) (simp linear (omega (arith, simp linear at b.0, simp linear at b.1)))

-- ---- sums of taps t times words x, by the words' parts

module _ (n : ℕ) (t x : ℕ → ℤ) where
  pub by_parts : pos 65536 *ℤ sum n (λ c. t c *ℤ upper_part (x c)) +ℤ sum n (λ c. t c *ℤ lower_part (x c)) ≡ sum n (λ c. t c *ℤ x c)
  by_parts =
      ap (λ z. z +ℤ sum n (λ c. t c *ℤ lower_part (x c))) (sym (sum-* n (pos 65536) (λ c. t c *ℤ upper_part (x c))))
      ∙ sym (sum-+ n (λ c. pos 65536 *ℤ (t c *ℤ upper_part (x c))) (λ c. t c *ℤ lower_part (x c)))
      ∙ sum_ext n (λ c l. whole (t c) (upper_part (x c)) (x c))
    where
      whole : (t u x : ℤ) → pos 65536 *ℤ (t *ℤ u) +ℤ t *ℤ (x -ℤ u *ℤ pos 65536) ≡ t *ℤ x
      whole t u x = simp products (simp terms (omega arith))

  pub by_samples : ((c : ℕ) → c < n → x c ≡ pos 256 *ℤ sample_part (x c)) → pos 256 *ℤ sum n (λ c. t c *ℤ sample_part (x c)) ≡ sum n (λ c. t c *ℤ x c)
  by_samples are = sym (sum-* n (pos 256) (λ c. t c *ℤ sample_part (x c))) ∙ sum_ext n (λ c l. moved (t c) (sample_part (x c)) ∙ ap (λ z. t c *ℤ z) (sym (are c l)))
    where
      moved : (t u : ℤ) → pos 256 *ℤ (t *ℤ u) ≡ t *ℤ (pos 256 *ℤ u)
      moved t u = simp products (simp terms (omega arith))

-- ---- sums over m pairs of taps t

module _ (rows : List ℤ) (m : ℕ) (t : ℕ → ℤ) (weight : total (2 * m) (λ c. nat_abs (t c)) ≤ 32768)
    (are : (k j : ℕ) → k < m → j < 16 → (at rows (32 * k + 2 * j) ≡ t (2 * k)) × (at rows (32 * k + 2 * j + 1) ≡ t (2 * k + 1))) where
  abbrev size : ℕ → ℕ
  size c = nat_abs (t c)

  weights : (n : ℕ) → n ≤ m → total (2 * n) size ≤ 32768
  weights n l = le_trans (total_mono (2 * n) (2 * m) size (omega arith)) weight

  -- times words x
  module _ (xs : List ℤ) (a b j : ℕ) (x : ℕ → ℤ) (inside : j < 16)
      (stand : (k : ℕ) → k < m → (at xs (place_of a b k + 2 * j) ≡ x (2 * k)) × (at xs (place_of a b k + 2 * j + 1) ≡ x (2 * k + 1))) where
    abbrev term : ℕ → ℤ
    term c = t c *ℤ x c

    pair_is : (k : ℕ) → k < m → pair_product rows xs (place_of a b k) k j ≡ term (2 * k) +ℤ term (2 * k + 1)
    pair_is k l = ap₂ ◌+ℤ◌ (ap₂ ◌*ℤ◌ (are k j l inside).0 (stand k l).0) (ap₂ ◌*ℤ◌ (are k j l inside).1 (stand k l).1)

    -- the sum of pairs is the sum over the taps
    pub line_sum_lem : (n : ℕ) → n ≤ m → pair_sum rows xs a b n j ≡ sum (2 * n) term
    unfolding sum
    line_sum_lem zero l = refl
    line_sum_lem (suc n) l =
        let e : 2 * suc n ≡ 2 * n + 1 + 1 = omega arith in
        ap₂ ◌+ℤ◌ (line_sum_lem n (omega arith)) (pair_is n (omega arith))
        ∙ regroup (sum (2 * n) term) (term (2 * n)) (term (2 * n + 1))
        ∙ ap (λ z. z +ℤ term (2 * n + 1)) (sym (sum_more (2 * n) term))
        ∙ sym (sum_more (2 * n + 1) term)
        ∙ ap (λ z. sum z term) (sym e)
      where
        regroup : (x y z : ℤ) → x +ℤ (y +ℤ z) ≡ x +ℤ y +ℤ z
        regroup x y z = simp linear (omega arith)

    module _ (bound : ℕ) (small : (c : ℕ) → nat_abs (x c) ≤ bound) where
      pub sum_small : (n : ℕ) → n ≤ m → nat_abs (pair_sum rows xs a b n j) ≤ 32768 * bound
      sum_small n l = rw (line_sum_lem n l) (le_trans (sum-abs-* (2 * n) t x bound (λ c k. small c)) (mul-le-mul (weights n l) (le_refl bound)))

      pub product_small : (k : ℕ) → k < m → nat_abs (pair_product rows xs (place_of a b k) k j) ≤ 32768 * bound
      product_small k l =
          let e : 2 * suc k ≡ 2 * k + 1 + 1 = omega arith in
          let two : size (2 * k) + size (2 * k + 1) ≤ 32768 =
          omega (arith, weights (suc k) l, ap (λ z. total z size) e, total_more (2 * k + 1) size, total_more (2 * k) size) in
          rw (pair_is k l)
          (le_trans
          (omega (
            arith,
            abs_triangle (term (2 * k)) (term (2 * k + 1)),
            abs-*-≤ (t (2 * k)) (x (2 * k)) (le_refl (size (2 * k))) (small (2 * k)),
            abs-*-≤ (t (2 * k + 1)) (x (2 * k + 1)) (le_refl (size (2 * k + 1))) (small (2 * k + 1)),
          ))
          (mul-le-mul two (le_refl bound)))

  -- times words x, by line
  module _ (xs : List ℤ) (a b far : ℕ) (x : ℕ → ℕ → ℕ → ℤ)
      (stand : (p j k : ℕ) → p < 4 → j < 16 → k < m
      → (at xs (place_of (a + shift far p) (b + shift far p) k + 2 * j) ≡ x p j (2 * k)) × (at xs (place_of (a + shift far p) (b + shift far p) k + 2 * j + 1) ≡ x p j (2 * k + 1))) where
    pub lines : (p j : ℕ) → p < 4 → j < 16 → line_sum rows xs a b far m p j ≡ sum (2 * m) (λ c. t c *ℤ x p j c)
    lines p j lp lj = line_sum_lem xs (a + shift far p) (b + shift far p) j (x p j) lj (λ k l. stand p j k lp lj l) m (le_refl m)

    pub lines_small : (bound : ℕ) → ((p j c : ℕ) → nat_abs (x p j c) ≤ bound) → Small rows xs a b far m (32768 * bound)
    lines_small bound small = (
      λ p k j lp l lj. sum_small xs (a + shift far p) (b + shift far p) j (x p j) lj (λ i. stand p j i lp lj) bound (small p j) k l,
      λ p k j lp l lj. product_small xs (a + shift far p) (b + shift far p) j (x p j) lj (λ i. stand p j i lp lj) bound (small p j) k l,
    )

-- ---- taps in the order of time

pub suc_pred : (n : ℕ) → 1 ≤ n → suc (pred n) ≡ n
suc_pred n l = omega arith

module _ (h : List ℤ) (small : tap_sum h ≤ 32768) (narrow : at h 0 <ℤ pos 32768) (some : 1 ≤ length h) where
  -- no tap is limited
  pub same_tap : (d : ℕ) → limit (negsuc 32767) (pos 32767) (at h d) ≡ at h d
  unfolding tap_sum total
  same_tap d = go (dec_le (suc d) (length h))
    where
      inside : (k : ℕ) → k < length h → limit (negsuc 32767) (pos 32767) (at h k) ≡ at h k
      inside zero l =
          let b : nat_abs (at h 0) ≤ 32768 = le_trans (tap_bound_lem h 0 l) small in
          limit-same (negsuc 32767) (pos 32767) (at h 0) (simp linear (omega (arith, simp linear at b))) (simp linear (omega (arith, simp linear at narrow)))
      inside (suc k) l =
          let b : nat_abs (at h (suc k)) ≤ 16384 = omega (arith, small, total_mono (suc k) (pred (length h)) (λ i. nat_abs (at h (suc i))) (omega arith)) in
          limit-same (negsuc 32767) (pos 32767) (at h (suc k)) (simp linear (omega (arith, simp linear at b))) (simp linear (omega (arith, simp linear at b)))

      go : Dec (d < length h) → limit (negsuc 32767) (pos 32767) (at h d) ≡ at h d
      go (yes l) = inside d l
      go (no l) =
          let e = at_outside h d (omega arith) in
          ap (limit (negsuc 32767) (pos 32767)) e ∙ limit-same (negsuc 32767) (pos 32767) (pos 0) (simp linear (omega arith)) (simp linear (omega arith)) ∙ sym e

  -- tap c
  abbrev reach : ℕ
  reach = pred (length h)

  one_more : suc reach ≡ length h
  one_more = suc_pred (length h) some

  abbrev tap : ℕ → ℤ
  tap c = at h (nat_abs (pos c -ℤ pos reach))

  pub taps_total : total (2 * length h) (λ c. nat_abs (tap c)) ≤ 32768
  unfolding tap_sum
  taps_total =
      let f : ℕ → ℕ = λ c. nat_abs (tap c) in
      let all : total (2 * reach + 1) f ≡ tap_sum h = total_around reach (λ d. nat_abs (at h d)) in
      let last : f (2 * reach + 1) ≡ 0 =
      ap nat_abs (at_outside h (nat_abs (pos (2 * reach + 1) -ℤ pos reach)) (simp linear (omega (arith, one_more)))) in
      let count : 2 * length h ≤ 2 * reach + 1 + 1 = omega (arith, one_more) in
      omega (arith, total_mono (2 * length h) (2 * reach + 1 + 1) f count, total_more (2 * reach + 1) f, all, last, small)

  pub rows_hold : (rows : List ℤ) → Rows h rows → (k j : ℕ) → k < length h → j < 16 → (at rows (32 * k + 2 * j) ≡ tap (2 * k)) × (at rows (32 * k + 2 * j + 1) ≡ tap (2 * k + 1))
  rows_hold rows are k j l m = ((are k j l m).0 ∙ same_tap (nat_abs (pos (2 * k) -ℤ pos reach)), (are k j l m).1 ∙ same_tap (nat_abs (pos (2 * k + 1) -ℤ pos reach)))

  -- the sum around word n + i of the level above
  module _ (level : List ℤ) (n i : ℕ) (inside : length h ≤ 2 * n + 1) where
    abbrev first : ℕ
    first = 2 * n + 1 - length h

    abbrev both : ℕ → ℤ
    both c = tap c *ℤ at level (first + (2 * i + c))

    abbrev around_it : ℤ → ℤ
    around_it z = at h (nat_abs z) *ℤ word_at level (pos (2 * (n + i)) +ℤ z)

    in_order : (c : ℕ) → both c ≡ around_it (pos c -ℤ pos reach)
    unfolding word_at
    in_order c =
        let e : pos (first + (2 * i + c)) ≡ pos (2 * (n + i)) +ℤ (pos c -ℤ pos reach) = simp linear (omega (arith, one_more, inside)) in
        ap (λ z. tap c *ℤ word_at level z) e

    last_none : both (2 * reach + 1) ≡ pos 0
    last_none =
        let x = at level (first + (2 * i + (2 * reach + 1))) in
        ap (λ t. t *ℤ x) (at_outside h (nat_abs (pos (2 * reach + 1) -ℤ pos reach)) (simp linear (omega (arith, one_more)))) ∙ none x
      where
        none : (x : ℤ) → pos 0 *ℤ x ≡ pos 0
        none x = simp linear (omega arith)

    pub sum_is : sum (2 * length h) both ≡ level_sum h level (n + i)
    unfolding level_sum
    sum_is =
        let e : 2 * length h ≡ 2 * reach + 1 + 1 = omega (arith, one_more) in
        ap (λ z. sum z both) e
        ∙ sum_more (2 * reach + 1) both
        ∙ ap₂ ◌+ℤ◌ (sum_ext (2 * reach + 1) (λ c l. in_order c) ∙ sum_around_lem reach around_it) last_none
        ∙ same (sum_around reach around_it)
      where
        same : (x : ℤ) → x +ℤ pos 0 ≡ x
        same x = simp linear (omega arith)

-- pairs in a row
in_row : (s k : ℕ) → place_of (0 + s) (2 + s) k ≡ s + 2 * k
unfolding place_of
in_row s zero = omega arith
in_row s (suc k) = omega arith

module _ (h : List ℤ) (small : tap_sum h ≤ 32768) (narrow : at h 0 <ℤ pos 32768) (some : 1 ≤ length h) (rows : List ℤ) (are : Rows h rows) (level : List ℤ) (n : ℕ) (inside : length h ≤ 2 * n + 1) where
  abbrev begin : ℕ
  begin = 2 * n + 1 - length h

  abbrev turn : ℕ → ℤ
  turn = tap h small narrow some

  abbrev word : ℕ → ℕ → ℕ → ℤ
  word p j c = at level (begin + (2 * (16 * p + j) + c))

  -- a list that has f of each word
  module _ (xs : List ℤ) (f : ℤ → ℤ) (staged : (i : ℕ) → i < 2 * length h + 126 → at xs i ≡ f (at level (begin + i))) where
    stand : (p j k : ℕ) → p < 4 → j < 16 → k < length h
        → (at xs (place_of (0 + shift 64 p) (2 + shift 64 p) k + 2 * j) ≡ f (word p j (2 * k))) × (at xs (place_of (0 + shift 64 p) (2 + shift 64 p) k + 2 * j + 1) ≡ f (word p j (2 * k + 1)))
    stand p j k lp lj l =
        let e = in_row (shift 64 p) k in
        let e₀ : place_of (0 + shift 64 p) (2 + shift 64 p) k + 2 * j ≡ 2 * (16 * p + j) + 2 * k = omega (arith, e) in
        let e₁ : place_of (0 + shift 64 p) (2 + shift 64 p) k + 2 * j + 1 ≡ 2 * (16 * p + j) + (2 * k + 1) = omega (arith, e) in
        (ap (at xs) e₀ ∙ staged (2 * (16 * p + j) + 2 * k) (omega arith), ap (at xs) e₁ ∙ staged (2 * (16 * p + j) + (2 * k + 1)) (omega arith))

    all_lines : (p j : ℕ) → p < 4 → j < 16 → line_sum rows xs 0 2 64 (length h) p j ≡ sum (2 * length h) (λ c. turn c *ℤ f (word p j c))
    all_lines = lines rows (length h) turn (taps_total h small narrow some) (rows_hold h small narrow some rows are) xs 0 2 64 (λ p j c. f (word p j c)) stand

    pub all_small : (bound : ℕ) → ((k : ℕ) → nat_abs (f (at level k)) ≤ bound) → Small rows xs 0 2 64 (length h) (32768 * bound)
    all_small bound low =
        lines_small rows (length h) turn (taps_total h small narrow some) (rows_hold h small narrow some rows are) xs 0 2 64 (λ p j c. f (word p j c)) stand bound
        (λ p j c. low (begin + (2 * (16 * p + j) + c)))

  -- sums of both parts, and of samples, are the sum around a word
  module _ (p j : ℕ) (lp : p < 4) (lj : j < 16) where
    pub part_lines : (highs lows : List ℤ) → ((i : ℕ) → i < 2 * length h + 126 → at highs i ≡ upper_part (at level (begin + i)))
        → ((i : ℕ) → i < 2 * length h + 126 → at lows i ≡ lower_part (at level (begin + i)))
        → pos 65536 *ℤ line_sum rows highs 0 2 64 (length h) p j +ℤ line_sum rows lows 0 2 64 (length h) p j ≡ level_sum h level (n + (16 * p + j))
    part_lines highs lows upper lower =
        ap₂ (λ x y. pos 65536 *ℤ x +ℤ y) (all_lines highs upper_part upper p j lp lj) (all_lines lows lower_part lower p j lp lj)
        ∙ by_parts (2 * length h) turn (word p j)
        ∙ sum_is h small narrow some level n (16 * p + j) inside

    pub sample_lines : (xs : List ℤ) → Samples level → ((i : ℕ) → i < 2 * length h + 126 → at xs i ≡ sample_part (at level (begin + i)))
        → pos 256 *ℤ line_sum rows xs 0 2 64 (length h) p j ≡ level_sum h level (n + (16 * p + j))
    sample_lines xs samples staged =
        ap (λ x. pos 256 *ℤ x) (all_lines xs sample_part staged p j lp lj)
        ∙ by_samples (2 * length h) turn (word p j) (λ c l. samples (begin + (2 * (16 * p + j) + c)))
        ∙ sum_is h small narrow some level n (16 * p + j) inside
