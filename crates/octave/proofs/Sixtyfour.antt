-- Sixty-four words, by every tap or by half-band taps, from words in one part or in two. Assumes nothing.
use Rattle.std.proofs.Common.{◌≡◌, refl, ap, ◌∙◌, ℕ, suc, ◌+◌, ◌-◌, ◌*◌, ◌/◌, ◌≤◌, ◌<◌, ◌^◌, List, length, take, drop, ℤ, pos, nat_abs, ◌<ℤ◌, arith}
use native.Mathlib.Decide.{dec_le}
use Rattle.arith.specs.Lists.{at, part}
use Rattle.arith.proofs.Lists.{at_outside, at_part, part_length}
use Rattle.book.specs.Check.{tap_sum}
use Rattle.book.specs.Inner.{HalfBand}
use Rattle.pair_sums.specs.Pairs.{upper_part, lower_part, sample_part, Samples, Written, Split, Small, shift}
use Rattle.pair_sums.specs.declared.places.Places.{Places}
use Rattle.pair_sums.specs.Forms.{InForm, SmallIn, sum_in}
use Rattle.pair_sums.specs.declared.scratch.Form.{Form}
use Rattle.pair_sums.specs.declared.scratch.Form.TheVariants.{TwoParts, OnePart}
use Rattle.pair_sums.proofs.Pairs.{upper_small}
use Rattle.octave.specs.Octave.{level_sum}
use Rattle.octave.specs.Inner.{Rows, BandRows}
use Rattle.octave.proofs.PairSums.{lower_small, sample_small, all_small, part_lines, sample_lines}
use Rattle.octave.proofs.BandSums.{band_small, band_parts, band_samples}

-- what follows for each part follows for the form
in_form : (P Q : (ℤ → ℤ) → List ℤ → Type 0) (form : Form) (high low : List ℤ) → ((f : ℤ → ℤ) (xs : List ℤ) → P f xs → Q f xs) → InForm form P high low → InForm form Q high low
in_form P Q TwoParts high low to w = (to upper_part high w.0, to lower_part low w.1)
in_form P Q OnePart high low to w = to sample_part high w

-- words of a level, as the code lends them
module _ (level : List ℤ) (first count : ℕ) (inside : first + count ≤ length level) where
  abbrev pub lent : List ℤ
  lent = take (first + count - first) (drop first level)

  lent_is : lent ≡ part level first count
  lent_is = let e : first + count - first ≡ count = omega arith in ap (λ m. take m (drop first level)) e

  pub lent_length : length lent ≡ count
  lent_length = ap length lent_is ∙ part_length level first count inside

  pub lent_at : (i : ℕ) → i < count → at lent i ≡ at level (first + i)
  lent_at i l = ap (λ xs. at xs i) lent_is ∙ at_part level first count i l

  pub lent_small : (c : ℕ) → ((k : ℕ) → nat_abs (at level k) ≤ c) → (i : ℕ) → nat_abs (at lent i) ≤ c
  lent_small c small i = go (dec_le (suc i) count)
    where
      go : Dec (i < count) → nat_abs (at lent i) ≤ c
      go (yes l) = rw (lent_at i l) (small (first + i))
      go (no l) = rw (at_outside lent i (omega (arith, lent_length))) (omega arith)

-- ---- by every tap

module _ (h : List ℤ) (small : tap_sum h ≤ 32768) (narrow : at h 0 <ℤ pos 32768) (some : 1 ≤ length h) (rows : List ℤ) (are : Rows h rows) (level : List ℤ) (n : ℕ) (inside : length h ≤ 2 * n + 1)
    (low : (k : ℕ) → nat_abs (at level k) ≤ 2 ^ 26) (count : ℕ) (enough : 2 * length h + 126 ≤ count) (lies : 2 * n + 1 - length h + count ≤ length level)
    (few : length h ≤ 41) (first_inside : 0 + 64 + 64 ≤ 208) (others_inside : 2 + 64 + 2 * length h + 60 ≤ 208) where
  abbrev InRow : (ℤ → ℤ) → List ℤ → Type 0
  InRow f xs = (i : ℕ) → i < 2 * length h + 126 → at xs i ≡ f (at level (2 * n + 1 - length h + i))

  in_row_lem : (f : ℤ → ℤ) (xs : List ℤ) → Written (lent level (2 * n + 1 - length h) count lies) f xs → InRow f xs
  in_row_lem f xs w i l =
      w i (omega (arith, lent_length level (2 * n + 1 - length h) count lies, enough)) ∙ ap f (lent_at level (2 * n + 1 - length h) count lies i (omega (arith, enough)))

  module _ (form : Form) (high last : List ℤ) (written : InForm form (Written (lent level (2 * n + 1 - length h) count lies)) high last) where
    abbrev every_places : Places
    every_places = record { pairs = length h; first = 0; others = 2; far = 64; few = few; first_inside = first_inside; others_inside = others_inside }

    pub every_small : SmallIn form rows every_places high last
    every_small = go form (in_form (Written (lent level (2 * n + 1 - length h) count lies)) InRow form high last in_row_lem written)
      where
        go : (form : Form) → InForm form InRow high last → SmallIn form rows every_places high last
        go TwoParts w = (
          all_small h small narrow some rows are level n inside high upper_part w.0 2048 (λ k. upper_small (at level k) (low k)),
          all_small h small narrow some rows are level n inside last lower_part w.1 32768 (λ k. lower_small (at level k)),
        )
        go OnePart w = all_small h small narrow some rows are level n inside high sample_part w 32768 (λ k. sample_small (at level k))

    pub every_sum : (form ≡ OnePart → Samples level) → (p j : ℕ) → p < 4 → j < 16 → sum_in form rows every_places high last p j ≡ level_sum h level (n + (16 * p + j))
    every_sum samples p j lp lj = go form samples (in_form (Written (lent level (2 * n + 1 - length h) count lies)) InRow form high last in_row_lem written)
      where
        go : (form : Form) → (form ≡ OnePart → Samples level) → InForm form InRow high last → sum_in form rows every_places high last p j ≡ level_sum h level (n + (16 * p + j))
        go TwoParts samples w = part_lines h small narrow some rows are level n inside p j lp lj high last w.0 w.1
        go OnePart samples w = sample_lines h small narrow some rows are level n inside p j lp lj high (samples refl) w

-- ---- by half-band taps

module _ (h : List ℤ) (small : tap_sum h ≤ 32768) (narrow : at h 0 <ℤ pos 32768) (some : 2 ≤ length h) (zeros : HalfBand h) (rows : List ℤ) (are : BandRows h rows) (level : List ℤ) (n : ℕ)
    (inside : length h ≤ 2 * n + 1) (low : (k : ℕ) → nat_abs (at level k) ≤ 2 ^ 26) (count : ℕ) (enough : 4 * (length h / 2) + 128 ≤ count)
    (lies : 2 * n + 1 - 2 * (length h / 2) + count ≤ length level) where
  abbrev half : ℕ
  half = length h / 2

  abbrev begin : ℕ
  begin = 2 * n + 1 - 2 * half

  abbrev InTwo : (ℤ → ℤ) → List ℤ → Type 0
  InTwo f xs = (i : ℕ) → i < 2 * half + 64 → (at xs i ≡ f (at level (begin + 2 * i))) × (at xs (104 + i) ≡ f (at level (begin + (2 * i + 1))))

  in_two : (f : ℤ → ℤ) (xs : List ℤ) → Split (lent level begin count lies) f xs → InTwo f xs
  in_two f xs w i l =
      let e = w i (omega (arith, lent_length level begin count lies, enough)) in
      (e.0 ∙ ap f (lent_at level begin count lies (2 * i) (omega (arith, enough))), e.1 ∙ ap f (lent_at level begin count lies (2 * i + 1) (omega (arith, enough))))

  -- where the centre's pairs stand
  centred : (place : ℕ) → place ≡ half + 103 → (f : ℤ → ℤ) (xs : List ℤ) → InTwo f xs → (m : ℕ) → m < 64
      → (at xs (place + m) ≡ f (at level (begin + (2 * (half - 1 + m) + 1)))) × (at xs (place + m + 1) ≡ f (at level (begin + (2 * (half + m) + 1))))
  centred place here f xs w m l = (ap (at xs) (omega arith) ∙ (w (half - 1 + m) (omega arith)).1, ap (at xs) (omega arith) ∙ (w (half + m) (omega arith)).1)

  module _ (place : ℕ) (here : place ≡ half + 103) (few : half + 1 ≤ 41) (first_inside : place + 1 + 64 ≤ 208) (others_inside : 0 + 1 + 2 * (half + 1) + 60 ≤ 208) (form : Form) (high last : List ℤ)
      (written : InForm form (Split (lent level begin count lies)) high last) where
    abbrev odd_places : Places
    odd_places = record { pairs = half + 1; first = place; others = 0; far = 1; few = few; first_inside = first_inside; others_inside = others_inside }

    two : InForm form InTwo high last
    two = in_form (Split (lent level begin count lies)) InTwo form high last in_two written

    pub odd_small : SmallIn form rows odd_places high last
    odd_small = go form two
      where
        part_small : (f : ℤ → ℤ) (xs : List ℤ) → InTwo f xs → (bound : ℕ) → ((k : ℕ) → nat_abs (f (at level k)) ≤ bound) → Small rows xs place 0 1 (half + 1) (32768 * bound)
        part_small f xs w = band_small h small narrow some zeros rows are level n inside place xs f w (centred place here f xs w)

        go : (form : Form) → InForm form InTwo high last → SmallIn form rows odd_places high last
        go TwoParts w = (part_small upper_part high w.0 2048 (λ k. upper_small (at level k) (low k)), part_small lower_part last w.1 32768 (λ k. lower_small (at level k)))
        go OnePart w = part_small sample_part high w 32768 (λ k. sample_small (at level k))

    pub odd_sum : (form ≡ OnePart → Samples level) → (p j : ℕ) → p < 4 → j < 16 → sum_in form rows odd_places high last p j ≡ level_sum h level (n + (shift 1 p + 2 * j))
    odd_sum samples p j lp lj = go form samples two
      where
        go : (form : Form) → (form ≡ OnePart → Samples level) → InForm form InTwo high last → sum_in form rows odd_places high last p j ≡ level_sum h level (n + (shift 1 p + 2 * j))
        go TwoParts samples w = band_parts h small narrow some zeros rows are level n inside place p j lp lj high last w.0 w.1 (centred place here upper_part high w.0) (centred place here lower_part last w.1)
        go OnePart samples w = band_samples h small narrow some zeros rows are level n inside place p j lp lj high (samples refl) w (centred place here sample_part high w)
