-- The laws of decimation over a line of points: a sum over the taps, step by step, and the output that it gives. Assumes nothing.
use mathlib.Core.Path.{◌≡◌, refl, sym, ap, ap₂, ◌∙◌}
use mathlib.Core.List.{List}
use Prim.Native.Nat.{ℕ, suc, ◌+◌, ◌-◌, ◌*◌, ◌/◌, ◌%◌, ◌^◌, ◌≤◌, ◌<◌, pred}
use native.Mathlib.Nat.{le_refl, le_trans, le_of_eq}
use native.Mathlib.Decide.{ℕ_discrete, dec_le}
use native.Mathlib.Omega.{arith}
use lib.IntN.{ℤ, pos, negsuc, nat_abs, ◌+ℤ◌, ◌-ℤ◌, ◌*ℤ◌}
use lib.ListN.{length}
use mir.Syntax.{w32, w64}
use mir.Val.{SFits, to_z, of_z}
use Rattle.arith.specs.Floor.{near}
use Rattle.arith.specs.Lists.{at, word_at, part}
use Rattle.arith.proofs.Bits.{reads, read32, read64}
use Rattle.arith.proofs.Integers.{abs_fits}
use Rattle.arith.proofs.Linear.{linear}
use Rattle.arith.proofs.Lists.{at_part, at_outside}
use Rattle.arith.proofs.Sum.{sum_around_ext}
use Rattle.book.specs.Book.{sizes_of, decimation_taps}
use Rattle.book.specs.Check.{tap_sum}
use Rattle.book.proofs.Accepted.{Accepted, accepted, sizes_bounded, decimation_taps-length, decimation_taps-sum}
use Rattle.book.proofs.Around.{before_inside, after_inside, around, around_one, around_more, around_bound, tap_bound_lem}
use Rattle.arith.specs.Limit.{limit}
use Rattle.decimation.specs.declared.Taps.{Taps}
use Rattle.decimation.specs.Decimation.{output_sum, output}
use Rattle.decimation.specs.Inner.{TapStep, Summable, centred_sum, sample_of, line_output}
use Rattle.decimation.proofs.Sums.{output_sum_around}

-- ---- the taps, step by step

-- tap k comes next; where the step is 2, that is an odd tap
pub record Place (taps : List ℤ) (step k : ℕ) : Type 0 where
  pub low : 1 ≤ k
  pub high : k ≤ length taps + 1
  pub odd : step ≡ 2 → k % 2 ≡ 1

pub first_place : (taps : List ℤ) (step : ℕ) → Place taps step 1
first_place taps step = record { low = omega arith; high = omega arith; odd = λ e. refl }

module _ {taps : List ℤ} {step k : ℕ} (s : TapStep taps step) (p : Place taps step k) where
  pub next_place : k < length taps → Place taps step (k + step)
  next_place l = record { low = omega (arith, p.low); high = omega (arith, s.high); odd = λ e. omega (arith, p.odd e) }

  -- a tap that a step of 2 leaves out is 0
  left_out : step ≡ 2 → at taps (k + 1) ≡ pos 0
  left_out e = let i : k + 1 ≡ 2 * (k / 2) + 2 = omega (arith, p.odd e) in ap (at taps) i ∙ s.even e (k / 2)

-- ---- the sum around a place of a line

module _ (taps line : List ℤ) (centre : ℕ) where
  -- over the taps below k
  abbrev below : ℕ → ℤ
  below = around taps line centre

  -- a tap that is 0 adds nothing
  none_more : (k : ℕ) → 1 ≤ k → at taps k ≡ pos 0 → below (k + 1) ≡ below k
  none_more k l e =
      let pair : ℤ = word_at line (pos centre -ℤ pos k) +ℤ word_at line (pos centre +ℤ pos k) in
      around_more taps line centre k l refl refl ∙ ap (λ t. below k +ℤ t *ℤ pair) e ∙ nothing (below k) pair
    where
      nothing : (x y : ℤ) → x +ℤ pos 0 *ℤ y ≡ x
      nothing x y = simp linear (omega arith)

  -- past the last tap nothing is added
  sum_end : {step k : ℕ} → Place taps step k → 1 ≤ length taps → length taps ≤ k → below k ≡ below (length taps)
  sum_end {k = k} p some l = go (dec_le k (length taps))
    where
      go : Dec (k ≤ length taps) → below k ≡ below (length taps)
      go (yes m) = let e : k ≡ length taps = omega arith in ap below e
      go (no m) =
          let e : k ≡ length taps + 1 = omega (arith, p.high) in
          ap below e ∙ none_more (length taps) some (at_outside taps (length taps) (le_refl (length taps)))

  -- a turn adds tap k, and passes by a tap only where that is 0
  sum_step : {step k : ℕ} → TapStep taps step → Place taps step k → k ≤ centre → below (k + step) ≡ below k +ℤ at taps k *ℤ (at line (centre - k) +ℤ at line (centre + k))
  sum_step {step} {k} s p l = go (ℕ_discrete step 2)
    where
      one : below (k + 1) ≡ below k +ℤ at taps k *ℤ (at line (centre - k) +ℤ at line (centre + k))
      one = around_more taps line centre k p.low (sym (before_inside line centre k l)) (sym (after_inside line centre k))

      go : Dec (step ≡ 2) → below (k + step) ≡ below k +ℤ at taps k *ℤ (at line (centre - k) +ℤ at line (centre + k))
      go (yes e) = let f : k + step ≡ k + 1 + 1 = omega arith in ap below f ∙ none_more (k + 1) (omega arith) (left_out s p e) ∙ one
      go (no n) = let f : k + step ≡ k + 1 = omega (arith, s.low, s.high) in ap below f ∙ one

-- ---- the numbers on the way, and a turn of the code

module _ {taps line : List ℤ} {step : ℕ} (s : Summable taps step line) where
  pub point_fits : (i : ℕ) → SFits w64 (at line i)
  point_fits i = abs_fits w64 (at line i) (omega (arith, s.bounded i))

  tap_small : (k : ℕ) → k < length taps → nat_abs (at taps k) ≤ 32768
  tap_small k l = le_trans (tap_bound_lem taps k l) s.small

  pub tap_fits : (k : ℕ) → k < length taps → SFits w32 (at taps k)
  tap_fits k l = abs_fits w32 (at taps k) (omega (arith, tap_small k l))

  -- a tap as the code reads it
  abbrev tap_read : ℕ → ℤ
  tap_read k = read64 (read32 (at taps k))

  tap_is : (k : ℕ) → k < length taps → tap_read k ≡ at taps k
  tap_is k l = let f = tap_fits k l in simp (reads, f)

  pub tap_read_small : (k : ℕ) → k < length taps → nat_abs (tap_read k) ≤ 32768
  tap_read_small k l = rw (tap_is k l) (tap_small k l)

  all_small : (centre : ℕ) → nat_abs (around taps line centre (length taps)) ≤ 2 ^ 44
  all_small centre = around_bound taps line centre s.small (2 ^ 29) s.bounded (length taps) (le_refl (length taps))

  pub around_small : (centre : ℕ) {k : ℕ} → Place taps step k → nat_abs (around taps line centre k) ≤ 2 ^ 44
  around_small centre {k} p = go (dec_le k (length taps))
    where
      go : Dec (k ≤ length taps) → nat_abs (around taps line centre k) ≤ 2 ^ 44
      go (yes l) = around_bound taps line centre s.small (2 ^ 29) s.bounded k l
      go (no n) = rw (sum_end taps line centre p s.some (omega arith)) (all_small centre)

  around_fits : (centre : ℕ) {k : ℕ} → Place taps step k → SFits w64 (around taps line centre k)
  around_fits centre {k} p = abs_fits w64 (around taps line centre k) (omega (arith, around_small centre p))

  pub first_fits : (centre : ℕ) → SFits w64 (at taps 0 *ℤ at line centre)
  first_fits centre = rw (← around_one taps line centre) (around_fits centre (first_place taps step))

  pub first-is : (centre : ℕ) {x : ℤ} → x ≡ tap_read 0 *ℤ at line centre → x ≡ around taps line centre 1
  first-is centre e = e ∙ ap (λ t. t *ℤ at line centre) (tap_is 0 s.some) ∙ sym (around_one taps line centre)

  module _ (centre : ℕ) {k : ℕ} (p : Place taps step k) where
    -- the sum over the taps below k, read from its bits
    pub sum_read : {v : ℕ} → v ≡ of_z w64 (around taps line centre k) → to_z w64 v ≡ around taps line centre k
    sum_read e = let f = around_fits centre p in simp (e, reads, f)

    -- what adding tap k to it leaves
    pub added_is : {x r : ℤ} → x ≡ around taps line centre k → k < length taps → k ≤ centre
        → r ≡ x +ℤ tap_read k *ℤ (at line (centre - k) +ℤ at line (centre + k)) → r ≡ around taps line centre (k + step)
    added_is e l m g =
        let pair : ℤ = at line (centre - k) +ℤ at line (centre + k) in
        g ∙ ap₂ (λ x t. x +ℤ t *ℤ pair) e (tap_is k l) ∙ sym (sum_step taps line centre s.stepped p m)

    -- after the last turn
    pub sum_all : {x : ℤ} → x ≡ around taps line centre k → length taps ≤ k → x ≡ centred_sum taps line centre
    unfolding centred_sum
    sum_all e l = e ∙ sum_end taps line centre p s.some l

  -- ---- the sum of an output

  pub centred_small : (centre : ℕ) → nat_abs (centred_sum taps line centre) ≤ 2 ^ 44
  unfolding centred_sum
  centred_small = all_small

  pub sample_is : {x : ℤ} (n centre : ℕ) → x ≡ centred_sum taps line centre → centre ≡ 126 - 2 * n + (length taps - 1) → sample_of x ≡ line_output taps line n
  unfolding line_output
  sample_is n centre e m = ap sample_of (e ∙ ap (centred_sum taps line) m)

-- ---- the outputs of a book

-- a word of a part, at a distance of at most m from word m of it
part_around : (line : List ℤ) (place m : ℕ) (k : ℤ) → nat_abs k ≤ m → m ≤ 40 → word_at line (pos (place + m) +ℤ k) ≡ word_at (part line place 81) (pos m +ℤ k)
unfolding word_at
part_around line place m (pos k) h l =
    let e : place + m + k ≡ place + (m + k) = omega arith in
    ap (at line) e ∙ sym (at_part line place 81 (m + k) (omega arith))
part_around line place m (negsuc k) h l =
    let inner : pos m +ℤ negsuc k ≡ pos (m - suc k) = simp linear (omega arith) in
    let outer : pos (place + m) +ℤ negsuc k ≡ pos (place + (m - suc k)) = simp linear (omega arith) in
    ap (word_at line) outer ∙ sym (ap (word_at (part line place 81)) inner ∙ at_part line place 81 (m - suc k) (omega arith))

module _ (b taps line : List ℤ) (a : Accepted b) (e : taps ≡ decimation_taps b) where
  count : (1 ≤ length taps) × (length taps ≤ 41)
  count = let n : length taps ≡ (sizes_of b).decimation + 1 = ap length e ∙ decimation_taps-length b a in (omega arith, omega (arith, (sizes_bounded b a).decimation_high))

  pub summable : {step : ℕ} → TapStep taps step → ((k : ℕ) → nat_abs (at line k) ≤ 2 ^ 29) → Summable taps step line
  summable s bound = record { some = count.0; few = count.1; small = le_trans (le_of_eq (ap tap_sum e)) (decimation_taps-sum b a); stepped = s; bounded = bound }

  sum_is : (place : ℕ) → centred_sum taps line (place + (length taps - 1)) ≡ output_sum b (part line place 81)
  unfolding centred_sum
  sum_is place =
      let m : ℕ = length taps - 1 in
      let few : m ≤ 40 = omega (arith, count) in
      sum_around_ext (pred (length taps)) (λ k h. ap (λ x. at taps (nat_abs k) *ℤ x) (part_around line place m k (omega arith) few))
      ∙ output_sum_around b (part line place 81) taps a e

  pub output_is : (i : ℕ) → line_output taps line i ≡ output b (part line (126 - 2 * i) 81)
  unfolding line_output sample_of output
  output_is i = ap (λ x. limit (negsuc 32767) (pos 32767) (near x (2 ^ 22))) (sum_is (126 - 2 * i))

pub fits : (t : Taps) (line : List ℤ) → ((k : ℕ) → nat_abs (at line k) ≤ 2 ^ 29) → Summable t.taps.now t.step line
fits t line bound = summable t.book.now t.taps.now line (accepted t.book.now t.accepted) t.of_book t.stepped bound
