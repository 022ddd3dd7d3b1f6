-- Sums over the taps of a half-band filter: the centre, and the taps at an odd distance, in pairs. Assumes nothing.
use mathlib.Core.Path.{◌≡◌, sym, ap, ap₂, ◌∙◌}
use mathlib.Core.List.{List}
use Prim.Native.Nat.{ℕ, zero, suc, ◌+◌, ◌-◌, ◌*◌, ◌/◌, ◌%◌, ◌≤◌, ◌<◌, pred}
use native.Mathlib.Omega.{arith}
use native.Mathlib.Decide.{ℕ_discrete}
use lib.IntN.{ℤ, pos, negsuc, nat_abs, ◌+ℤ◌, ◌-ℤ◌, ◌*ℤ◌}
use lib.ListN.{length}
use lib.Signed.{◌<ℤ◌}
use Rattle.arith.specs.Limit.{limit}
use Rattle.arith.specs.Lists.{at, word_at}
use Rattle.arith.specs.Sum.{sum, total, sum_around}
use Rattle.arith.proofs.Linear.{linear}
use Rattle.arith.proofs.Sum.{sum_more, sum_ext, sum_first, total_more, total_ext, total_first, total_mono}
use Rattle.book.specs.Check.{tap_sum}
use Rattle.book.specs.Inner.{HalfBand}
use Rattle.pair_sums.specs.Pairs.{upper_part, lower_part, sample_part, Samples, place_of, shift, line_sum, Small}
use Rattle.octave.specs.Octave.{level_sum}
use Rattle.octave.specs.Inner.{BandRows}
use Rattle.octave.proofs.PairSums.{by_parts, by_samples, lines, lines_small, suc_pred, same_tap}

-- ---- a sum around 0, of what is 0 at all other even places, and of sizes

module _ (f : ℤ → ℤ) (none : (e : ℕ) → (f (pos (2 * e + 2)) ≡ pos 0) × (f (negsuc (2 * e + 1)) ≡ pos 0)) where
  abbrev odd : ℕ → ℕ → ℤ
  odd q c = f (pos (2 * c + 1) -ℤ pos (2 * suc q))

  -- an even place adds nothing
  even_more : (q : ℕ) → sum_around (suc (2 * q + 1)) f ≡ sum_around (2 * q + 1) f
  unfolding sum_around
  even_more q = ap (λ z. sum_around (2 * q + 1) f +ℤ z) (ap₂ ◌+ℤ◌ (none q).1 (ap f (ap pos (omega arith)) ∙ (none q).0)) ∙ same (sum_around (2 * q + 1) f)
    where
      same : (x : ℤ) → x +ℤ (pos 0 +ℤ pos 0) ≡ x
      same x = simp linear (omega arith)

  -- the two places behind an odd one
  two_more : (q : ℕ) → sum_around (2 * suc q + 1) f ≡ sum_around (2 * q + 1) f +ℤ (f (negsuc (2 * q + 2)) +ℤ f (pos (2 * q + 3)))
  unfolding sum_around
  two_more q =
      let e : 2 * suc q + 1 ≡ suc (suc (2 * q + 1)) = omega arith in
      ap (λ z. sum_around z f) e
      ∙ ap₂ ◌+ℤ◌ (even_more q) (ap₂ ◌+ℤ◌ (ap f (ap negsuc (omega arith))) (ap f (ap pos (omega arith))))

  ends : (q : ℕ) → sum (2 * suc (suc q)) (odd (suc q)) ≡ f (negsuc (2 * q + 2)) +ℤ (sum (2 * suc q) (odd q) +ℤ f (pos (2 * q + 3)))
  ends q =
      let g : ℕ → ℤ = odd (suc q) in
      let m : ℕ = 2 * suc q in
      let e : 2 * suc (suc q) ≡ suc (m + 1) = omega arith in
      ap (λ z. sum z g) e
      ∙ sum_first (m + 1) g
      ∙ ap (λ z. g 0 +ℤ z) (sum_more m (λ c. g (suc c)))
      ∙ ap₂ ◌+ℤ◌ (ap f (simp linear (omega arith))) (ap₂ ◌+ℤ◌ (sum_ext m (λ c l. ap f (simp linear (omega arith)))) (ap f (simp linear (omega arith))))

  odd_sum : (q : ℕ) → sum_around (2 * q + 1) f ≡ f (pos 0) +ℤ sum (2 * suc q) (odd q)
  unfolding sum_around sum
  odd_sum zero = regroup (f (pos 0)) (f (negsuc 0)) (f (pos 1))
    where
      regroup : (x y z : ℤ) → x +ℤ (y +ℤ z) ≡ x +ℤ (pos 0 +ℤ y +ℤ z)
      regroup x y z = simp linear (omega arith)
  odd_sum (suc q) =
      two_more q
      ∙ ap (λ z. z +ℤ (f (negsuc (2 * q + 2)) +ℤ f (pos (2 * q + 3)))) (odd_sum q)
      ∙ regroup (f (pos 0)) (sum (2 * suc q) (odd q)) (f (negsuc (2 * q + 2))) (f (pos (2 * q + 3)))
      ∙ ap (λ z. f (pos 0) +ℤ z) (sym (ends q))
    where
      regroup : (x s y z : ℤ) → x +ℤ s +ℤ (y +ℤ z) ≡ x +ℤ (y +ℤ (s +ℤ z))
      regroup x s y z = simp linear (omega arith)

module _ (g : ℕ → ℕ) where
  abbrev odd_size : ℕ → ℕ → ℕ
  odd_size q c = g (nat_abs (pos (2 * c + 1) -ℤ pos (2 * suc q)))

  odd_total : (q : ℕ) → total (2 * suc q) (odd_size q) ≤ 2 * total (2 * q + 1) (λ k. g (suc k))
  unfolding total
  odd_total zero = omega arith
  odd_total (suc q) =
      let h : ℕ → ℕ = odd_size (suc q) in
      let m : ℕ = 2 * suc q in
      let e : 2 * suc (suc q) ≡ suc (m + 1) = omega arith in
      let all : total (2 * suc (suc q)) h ≡ h 0 + total (m + 1) (λ c. h (suc c)) = ap (λ z. total z h) e ∙ total_first (m + 1) h in
      let inner : total m (λ c. h (suc c)) ≡ total m (odd_size q) = total_ext m (λ c l. let d : pos (2 * suc c + 1) -ℤ pos (2 * suc (suc q)) ≡ pos (2 * c + 1) -ℤ pos (2 * suc q) = simp linear (omega arith) in ap (λ z. g (nat_abs z)) d) in
      let first : h 0 ≡ g (2 * q + 3) = ap g (simp linear (omega arith)) in
      let last : h (suc m) ≡ g (2 * q + 3) = ap g (simp linear (omega arith)) in
      let G : ℕ → ℕ = λ k. g (suc k) in
      let e₂ : 2 * suc q + 1 ≡ suc (suc (2 * q + 1)) = omega arith in
      let top : total (2 * suc q + 1) G ≡ total (2 * q + 1) G + G (2 * q + 1) + G (suc (2 * q + 1)) = ap (λ z. total z G) e₂ in
      let e₃ : suc (suc (2 * q + 1)) ≡ 2 * q + 3 = omega arith in
      let there : G (suc (2 * q + 1)) ≡ g (2 * q + 3) = ap g e₃ in
      omega (arith, all, total_more m (λ c. h (suc c)), inner, first, last, top, there, odd_total q)

-- ---- the taps, the centre's pair first

zero-* : (x : ℤ) → pos 0 *ℤ x ≡ pos 0
zero-* x = simp linear (omega arith)

unfoldable pub band_tap : List ℤ → ℕ → ℤ
band_tap h zero = at h 0
band_tap h (suc zero) = pos 0
band_tap h (suc (suc c)) = at h (nat_abs (pos (2 * c + 1) -ℤ pos (2 * (length h / 2))))

-- and their words, around word 2i behind word 2n
unfoldable pub band_word : List ℤ → List ℤ → ℕ → ℕ → ℕ → ℤ
band_word h level n i zero = at level (2 * (n + i))
band_word h level n i (suc zero) = at level (2 * (n + i) + 2)
band_word h level n i (suc (suc c)) = at level (2 * n + 1 - 2 * (length h / 2) + (2 * i + 2 * c))

module _ (h : List ℤ) (some : 2 ≤ length h) where
  abbrev half : ℕ
  half = length h / 2

  abbrev q : ℕ
  q = pred half

  half_is : suc q ≡ half
  half_is = suc_pred half (omega arith)

  band_total : tap_sum h ≤ 32768 → total (2 * (half + 1)) (λ c. nat_abs (band_tap h c)) ≤ 32768
  unfolding tap_sum band_tap
  band_total small =
      let g : ℕ → ℕ = λ d. nat_abs (at h d) in
      let t : ℕ → ℕ = λ c. nat_abs (band_tap h c) in
      let e : 2 * (half + 1) ≡ suc (suc (2 * half)) = omega arith in
      let all : total (2 * (half + 1)) t ≡ t 0 + total (suc (2 * half)) (λ c. t (suc c)) = ap (λ z. total z t) e ∙ total_first (suc (2 * half)) t in
      let rest : total (suc (2 * half)) (λ c. t (suc c)) ≡ t 1 + total (2 * half) (λ c. t (suc (suc c))) = total_first (2 * half) (λ c. t (suc c)) in
      let odds : total (2 * half) (λ c. t (suc (suc c))) ≡ total (2 * suc q) (odd_size g q) = ap (λ z. total (2 * z) (λ c. g (nat_abs (pos (2 * c + 1) -ℤ pos (2 * z))))) (sym half_is) in
      omega (arith, small, all, rest, odds, odd_total g q, total_mono (2 * q + 1) (pred (length h)) (λ k. g (suc k)) (omega (arith, half_is)))

  module _ (level : List ℤ) (n i : ℕ) (inside : length h ≤ 2 * n + 1) (zeros : HalfBand h) where
    abbrev around_it : ℤ → ℤ
    around_it z = at h (nat_abs z) *ℤ word_at level (pos (2 * (n + i)) +ℤ z)

    none : (e : ℕ) → (around_it (pos (2 * e + 2)) ≡ pos 0) × (around_it (negsuc (2 * e + 1)) ≡ pos 0)
    none e =
        let d : suc (2 * e + 1) ≡ 2 * e + 2 = omega arith in
        (nothing (at h (2 * e + 2)) (word_at level (pos (2 * (n + i)) +ℤ pos (2 * e + 2))) (zeros e), nothing (at h (suc (2 * e + 1))) (word_at level (pos (2 * (n + i)) +ℤ negsuc (2 * e + 1))) (ap (at h) d ∙ zeros e))
      where
        nothing : (t x : ℤ) → t ≡ pos 0 → t *ℤ x ≡ pos 0
        nothing t x p = ap (λ z. z *ℤ x) p ∙ zero-* x

    -- a last tap at an even distance adds nothing
    whole : sum_around (pred (length h)) around_it ≡ sum_around (2 * q + 1) around_it
    whole = go (ℕ_discrete (length h % 2) 0)
      where
        go : Dec (length h % 2 ≡ 0) → sum_around (pred (length h)) around_it ≡ sum_around (2 * q + 1) around_it
        go (yes e) = let p : pred (length h) ≡ 2 * q + 1 = omega (arith, half_is) in ap (λ z. sum_around z around_it) p
        go (no e) =
            let p : pred (length h) ≡ suc (2 * q + 1) = omega (arith, half_is) in
            ap (λ z. sum_around z around_it) p ∙ even_more around_it none q

    abbrev term : ℕ → ℤ
    term c = band_tap h c *ℤ band_word h level n i c

    odd_terms : (c : ℕ) → term (suc (suc c)) ≡ around_it (pos (2 * c + 1) -ℤ pos (2 * half))
    unfolding band_tap band_word word_at
    odd_terms c =
        let e : pos (2 * n + 1 - 2 * half + (2 * i + 2 * c)) ≡ pos (2 * (n + i)) +ℤ (pos (2 * c + 1) -ℤ pos (2 * half)) = simp linear (omega (arith, inside)) in
        ap (λ z. at h (nat_abs (pos (2 * c + 1) -ℤ pos (2 * half))) *ℤ word_at level z) e

    centre : term 0 ≡ around_it (pos 0)
    unfolding band_tap band_word word_at
    centre = let e : pos (2 * (n + i)) ≡ pos (2 * (n + i)) +ℤ pos 0 = simp linear (omega arith) in ap (λ z. at h 0 *ℤ word_at level z) e

    second : term 1 ≡ pos 0
    unfolding band_tap
    second = zero-* (band_word h level n i 1)

    pub band_sum : sum (2 * (half + 1)) term ≡ level_sum h level (n + i)
    unfolding level_sum
    band_sum =
        let e : 2 * (half + 1) ≡ suc (suc (2 * half)) = omega arith in
        ap (λ z. sum z term) e
        ∙ sum_first (suc (2 * half)) term
        ∙ ap₂ ◌+ℤ◌ centre (sum_first (2 * half) (λ c. term (suc c)) ∙ ap₂ ◌+ℤ◌ second (sum_ext (2 * half) (λ c l. odd_terms c)) ∙ same (sum (2 * half) (λ c. around_it (pos (2 * c + 1) -ℤ pos (2 * half)))))
        ∙ ap (λ z. around_it (pos 0) +ℤ sum (2 * z) (λ c. around_it (pos (2 * c + 1) -ℤ pos (2 * z)))) (sym half_is)
        ∙ sym (odd_sum around_it none q)
        ∙ sym whole
      where
        same : (x : ℤ) → pos 0 +ℤ x ≡ x
        same x = simp linear (omega arith)

-- ---- sums by line

module _ (h : List ℤ) (small : tap_sum h ≤ 32768) (narrow : at h 0 <ℤ pos 32768) (some : 2 ≤ length h) (zeros : HalfBand h) (rows : List ℤ) (are : BandRows h rows) (level : List ℤ) (n : ℕ) (inside : length h ≤ 2 * n + 1) where
  abbrev Q : ℕ
  Q = length h / 2

  abbrev begin : ℕ
  begin = 2 * n + 1 - 2 * Q

  limited : (d : ℕ) → limit (negsuc 32767) (pos 32767) (at h d) ≡ at h d
  limited = same_tap h small narrow (omega arith)

  rows_hold : (k j : ℕ) → k < Q + 1 → j < 16 → (at rows (32 * k + 2 * j) ≡ band_tap h (2 * k)) × (at rows (32 * k + 2 * j + 1) ≡ band_tap h (2 * k + 1))
  unfolding band_tap
  rows_hold zero j l m = (ap (at rows) (omega arith) ∙ (are.0 j m).0 ∙ limited 0, ap (at rows) (omega arith) ∙ (are.0 j m).1)
  rows_hold (suc k) j l m =
      let w = are.1 k j (omega arith) m in
      let e₀ : suc (suc (2 * k)) ≡ 2 * suc k = omega arith in
      let e₁ : suc (suc (2 * k + 1)) ≡ 2 * suc k + 1 = omega arith in (
        ap (at rows) (omega arith) ∙ w.0 ∙ limited (nat_abs (pos (2 * (2 * k) + 1) -ℤ pos (2 * Q))) ∙ ap (band_tap h) e₀,
        ap (at rows) (omega arith) ∙ w.1 ∙ limited (nat_abs (pos (2 * (2 * k + 1) + 1) -ℤ pos (2 * Q))) ∙ ap (band_tap h) e₁,
      )

  abbrev word : ℕ → ℕ → ℕ → ℤ
  word p j = band_word h level n (shift 1 p + 2 * j)

  abbrev Staged : (ℤ → ℤ) → List ℤ → Type 0
  Staged f xs = (i : ℕ) → i < 2 * Q + 64 → (at xs i ≡ f (at level (begin + 2 * i))) × (at xs (104 + i) ≡ f (at level (begin + (2 * i + 1))))

  -- the centre's pairs stand from a place on: the word in front of the centre's, and the centre's
  abbrev Centred : ℕ → (ℤ → ℤ) → List ℤ → Type 0
  Centred place f xs =
      (m : ℕ) → m < 64 → (at xs (place + m) ≡ f (at level (begin + (2 * (Q - 1 + m) + 1)))) × (at xs (place + m + 1) ≡ f (at level (begin + (2 * (Q + m) + 1))))

  module _ (centre_place : ℕ) (xs : List ℤ) (f : ℤ → ℤ) (staged : Staged f xs) (centred : Centred centre_place f xs) where
    stand : (p j k : ℕ) → p < 4 → j < 16 → k < Q + 1
        → (at xs (place_of (centre_place + shift 1 p) (0 + shift 1 p) k + 2 * j) ≡ f (word p j (2 * k))) × (at xs (place_of (centre_place + shift 1 p) (0 + shift 1 p) k + 2 * j + 1) ≡ f (word p j (2 * k + 1)))
    unfolding place_of band_word
    stand p j zero lp lj l =
        let m : ℕ = shift 1 p + 2 * j in
        let low : m < 64 = omega arith in (
          ap (at xs) (omega arith) ∙ (centred m low).0 ∙ ap (λ i. f (at level i)) (omega arith),
          ap (at xs) (omega arith) ∙ (centred m low).1 ∙ ap (λ i. f (at level i)) (omega arith),
        )
    stand p j (suc k) lp lj l =
        let m : ℕ = shift 1 p + 2 * j in
        let low : m < 64 = omega arith in
        let e₀ : suc (suc (2 * k)) ≡ 2 * suc k = omega arith in
        let e₁ : suc (suc (2 * k + 1)) ≡ 2 * suc k + 1 = omega arith in (
          ap (at xs) (omega arith) ∙ (staged (m + 2 * k) (omega arith)).0 ∙ ap (λ i. f (at level i)) (omega arith) ∙ ap (λ c. f (word p j c)) e₀,
          ap (at xs) (omega arith) ∙ (staged (m + (2 * k + 1)) (omega arith)).0 ∙ ap (λ i. f (at level i)) (omega arith) ∙ ap (λ c. f (word p j c)) e₁,
        )

    all_lines : (p j : ℕ) → p < 4 → j < 16 → line_sum rows xs centre_place 0 1 (Q + 1) p j ≡ sum (2 * (Q + 1)) (λ c. band_tap h c *ℤ f (word p j c))
    all_lines = lines rows (Q + 1) (band_tap h) (band_total h some small) rows_hold xs centre_place 0 1 (λ p j c. f (word p j c)) stand

    pub band_small : (bound : ℕ) → ((k : ℕ) → nat_abs (f (at level k)) ≤ bound) → Small rows xs centre_place 0 1 (Q + 1) (32768 * bound)
    unfolding band_word
    band_small bound low = lines_small rows (Q + 1) (band_tap h) (band_total h some small) rows_hold xs centre_place 0 1 (λ p j c. f (word p j c)) stand bound low-words
      where
        low-words : (p j c : ℕ) → nat_abs (f (word p j c)) ≤ bound
        low-words p j zero = low (2 * (n + (shift 1 p + 2 * j)))
        low-words p j (suc zero) = low (2 * (n + (shift 1 p + 2 * j)) + 2)
        low-words p j (suc (suc c)) = low (begin + (2 * (shift 1 p + 2 * j) + 2 * c))

  module _ (centre_place p j : ℕ) (lp : p < 4) (lj : j < 16) where
    pub band_parts : (highs lows : List ℤ) → Staged upper_part highs → Staged lower_part lows → Centred centre_place upper_part highs → Centred centre_place lower_part lows
        → pos 65536 *ℤ line_sum rows highs centre_place 0 1 (Q + 1) p j +ℤ line_sum rows lows centre_place 0 1 (Q + 1) p j ≡ level_sum h level (n + (shift 1 p + 2 * j))
    band_parts highs lows upper lower high_centre low_centre =
        ap₂ (λ x y. pos 65536 *ℤ x +ℤ y) (all_lines centre_place highs upper_part upper high_centre p j lp lj) (all_lines centre_place lows lower_part lower low_centre p j lp lj)
        ∙ by_parts (2 * (Q + 1)) (band_tap h) (word p j)
        ∙ band_sum h some level n (shift 1 p + 2 * j) inside zeros

    pub band_samples : (xs : List ℤ) → Samples level → Staged sample_part xs → Centred centre_place sample_part xs → pos 256 *ℤ line_sum rows xs centre_place 0 1 (Q + 1) p j ≡ level_sum h level (n + (shift 1 p + 2 * j))
    unfolding band_word
    band_samples xs samples staged centred =
        ap (λ x. pos 256 *ℤ x) (all_lines centre_place xs sample_part staged centred p j lp lj)
        ∙ by_samples (2 * (Q + 1)) (band_tap h) (word p j) (λ c l. sample c)
        ∙ band_sum h some level n (shift 1 p + 2 * j) inside zeros
      where
        sample : (c : ℕ) → word p j c ≡ pos 256 *ℤ sample_part (word p j c)
        sample zero = samples (2 * (n + (shift 1 p + 2 * j)))
        sample (suc zero) = samples (2 * (n + (shift 1 p + 2 * j)) + 2)
        sample (suc (suc c)) = samples (begin + (2 * (shift 1 p + 2 * j) + 2 * c))
