-- What an accepted book is known to hold: the laws that its readers cite. Assumes nothing.
use Rattle.std.proofs.Common.{◌≡◌, ℕ, suc, pred, ◌+◌, ◌*◌, ◌<◌, ◌≤◌, Bool, true, not, eqb, ltb, leb, List, length, ℤ, pos, negsuc, ◌-ℤ◌, nat_abs, ◌≤ℤ◌, ◌<ℤ◌, sym, ap, ◌∙◌, le_trans, arith, eqb-true, leb-true}
use native.Mathlib.Decide.{dec_lt}
use lib.Signed.{le_z}
use Rattle.arith.specs.Lists.{at}
use Rattle.arith.specs.Sum.{total}
use Rattle.arith.specs.Tests.{eq_z, within, every}
use Rattle.arith.proofs.Linear.{linear, le_yes}
use Rattle.arith.proofs.Lists.{part_length, at_part}
use Rattle.arith.proofs.Sum.{total_ext, total_first}
use Rattle.arith.proofs.Tests.{&&-left, &&-right, every-at, eq_z_true}
use Rattle.book.specs.declared.Sizes.{Sizes}
use Rattle.refusal.specs.Number.{refuse}
use Rattle.book.specs.Book.{sizes_of, level_taps_at, decimation_taps_at, book_length, impulse_word, impulse, difference, level_taps, decimation_taps}
use Rattle.book.specs.Check.{sizes_in_range, words_in_range, coefficients_in_range, differences_right, phase_sum, tap_sum, sums_in_range, book_number}
use Rattle.book.proofs.Bounds.{Bounded, bounded, decimation_at, end_at, row_below, impulses_small, array_high, length_is}
use Rattle.refusal.proofs.Numbers.{none_first, none_second, not_refused}
use Rattle.book.proofs.Parts.{impulse_stored, impulse_past, impulse_end}

-- none of the numbers 2 to 7 is given
pub record Accepted (b : List ℤ) : Type 0 where
  pub sizes : sizes_in_range b ≡ true
  pub lengthy : length b ≡ book_length (sizes_of b)
  pub ranged : coefficients_in_range b ≡ true
  pub zeroed : impulse b 0 0 ≡ pos 0
  pub different : differences_right b ≡ true
  pub summed : sums_in_range b ≡ true

pub accepted : (b : List ℤ) → book_number b ≡ 0 → Accepted b
unfolding book_number
accepted b e1 =
    let e2 = none_second (refuse 1 (ltb (length b) 5)) _ e1 in
    let e3 = none_second (refuse 2 (not (sizes_in_range b))) _ e2 in
    let e4 = none_second (refuse 3 (not (eqb (length b) (book_length (sizes_of b))))) _ e3 in
    let e5 = none_second (refuse 4 (not (coefficients_in_range b))) _ e4 in
    let e6 = none_second (refuse 5 (not (eq_z (impulse b 0 0) (pos 0)))) _ e5 in
    let e7 = none_second (refuse 6 (not (differences_right b))) _ e6 in
    record {
      sizes = not_refused 1 (sizes_in_range b) (none_first _ _ e2);
      lengthy = eqb-true _ _ (not_refused 2 (eqb (length b) (book_length (sizes_of b))) (none_first _ _ e3));
      ranged = not_refused 3 (coefficients_in_range b) (none_first _ _ e4);
      zeroed = eq_z_true _ _ (not_refused 4 (eq_z (impulse b 0 0) (pos 0)) (none_first _ _ e5));
      different = not_refused 5 (differences_right b) (none_first _ _ e6);
      summed = not_refused 6 (sums_in_range b) e7;
    }

module _ (b : List ℤ) (a : Accepted b) where
  pub sizes_bounded : Bounded (sizes_of b)
  sizes_bounded = bounded b a.sizes

  -- ---- taps

  pub level_taps-length : length (level_taps b) ≡ (sizes_of b).reach + 1
  unfolding level_taps
  level_taps-length = part_length b (level_taps_at (sizes_of b)) ((sizes_of b).reach + 1) (omega (arith, a.lengthy, decimation_at (sizes_of b), end_at (sizes_of b)))

  pub decimation_taps-length : length (decimation_taps b) ≡ (sizes_of b).decimation + 1
  unfolding decimation_taps
  decimation_taps-length = part_length b (decimation_taps_at (sizes_of b)) ((sizes_of b).decimation + 1) (omega (arith, a.lengthy, end_at (sizes_of b)))

  pub level_taps-sum : tap_sum (level_taps b) ≤ 32768
  unfolding sums_in_range
  level_taps-sum = let s = a.summed in leb-true _ _ (search (&&-left, &&-right))

  -- number 4 takes no tap of 32768
  pub level_taps_narrow : at (level_taps b) 0 <ℤ pos 32768
  unfolding level_taps coefficients_in_range words_in_range
  level_taps_narrow =
      let s = sizes_of b in
      let n = s.reach + 1 + (s.decimation + 1) in
      let f : ℕ → Bool = λ i. within (negsuc 32767) (pos 32767) (at b (level_taps_at s + i)) in
      let first = every-at n f (&&-right (words_in_range b 5 (s.phases * s.taps)) _ a.ranged) 0 (omega arith) in
      let high : at b (level_taps_at s + 0) ≤ℤ pos 32767 = le_yes (&&-right (le_z (negsuc 32767) (at b (level_taps_at s + 0))) _ first) in
      rw (at_part b (level_taps_at s) (s.reach + 1) 0 (omega arith)) (simp linear (omega (arith, simp linear at high)))

  pub decimation_taps-sum : tap_sum (decimation_taps b) ≤ 32768
  unfolding sums_in_range
  decimation_taps-sum = let s = a.summed in leb-true _ _ (search (&&-left, &&-right))

  -- ---- impulses and differences

  -- the word for phase q, tap k lies in −32768..32767
  pub impulse_word_bound : (q k : ℕ) → q < (sizes_of b).phases → k < (sizes_of b).taps → nat_abs (impulse_word b q k) ≤ 32768
  unfolding impulse_word
  impulse_word_bound q k h l = impulses_small b a.ranged (5 + (q * (sizes_of b).taps + k)) (omega arith) (omega (arith, row_below h l))

  pub difference_is : (q k : ℕ) → q < (sizes_of b).phases → k < (sizes_of b).taps → difference b q k ≡ impulse b (suc q) k -ℤ impulse b q k
  unfolding differences_right
  difference_is q k h l =
      let row = every-at (sizes_of b).phases (λ q. every (sizes_of b).taps (λ k. eq_z (difference b q k) (impulse b (suc q) k -ℤ impulse b q k))) a.different q h in
      eq_z_true _ _ (every-at (sizes_of b).taps (λ k. eq_z (difference b q k) (impulse b (suc q) k -ℤ impulse b q k)) row k l)

  -- ---- the sums of absolute values, of every phase q = 0 .. M

  phase_sum_below : (q : ℕ) → q < (sizes_of b).phases → phase_sum b q ≤ 65536
  unfolding sums_in_range
  phase_sum_below q h =
      let s = a.summed in
      let all : every (sizes_of b).phases (λ q. leb (phase_sum b q) 65536) ≡ true = search (&&-left, &&-right) in
      leb-true _ _ (every-at (sizes_of b).phases (λ q. leb (phase_sum b q) 65536) all q h)

  -- G_M is G_0 moved by one tap, and G_0[0] is 0
  phase_sum_past : phase_sum b (sizes_of b).phases ≤ phase_sum b 0
  unfolding phase_sum total
  phase_sum_past =
      let n = pred (sizes_of b).taps in
      let taps_are : (sizes_of b).taps ≡ suc n = omega (arith, sizes_bounded.taps_low) in
      let past : ℕ → ℕ = λ k. nat_abs (impulse b (sizes_of b).phases k) in
      let first : ℕ → ℕ = λ k. nat_abs (impulse b 0 k) in
      let ends : past n ≡ 0 = ap nat_abs (impulse_end b n (omega arith)) in
      let moved : total n past ≡ total n (λ k. first (suc k)) = total_ext n (λ k h. ap nat_abs (impulse_past b k (omega arith) ∙ sym (impulse_stored b 0 (suc k) sizes_bounded.phases_low))) in
      let whole : total (suc n) past ≤ total (suc n) first = omega (arith, ends, moved, total_first n first) in
      rw taps_are whole

  pub phase_sum_bound : (q : ℕ) → q ≤ (sizes_of b).phases → phase_sum b q ≤ 65536
  phase_sum_bound q h = go (dec_lt q (sizes_of b).phases)
    where
      go : Dec (q < (sizes_of b).phases) → phase_sum b q ≤ 65536
      go (yes l) = phase_sum_below q l
      go (no l) = let e : q ≡ (sizes_of b).phases = omega arith in rw e (le_trans phase_sum_past (phase_sum_below 0 sizes_bounded.phases_low))

-- ---- the sizes that were read, and the book's length by them

pub sizes_room : (b : List ℤ) → Accepted b → (s : Sizes) → s ≡ sizes_of b
    → (length b ≡ 5 + s.phases * s.taps + s.phases * s.taps + (s.reach + 1) + (s.decimation + 1)) × (s.phases * s.taps ≤ 3072) × (s.reach ≤ 40) × (s.decimation ≤ 40)
sizes_room b a s e =
    let f : Bounded s = rw e (sizes_bounded b a) in
    let l : length b ≡ book_length s = a.lengthy ∙ ap book_length (sym e) in
    (l ∙ length_is s, array_high f, f.reach_high, f.decimation_high)
