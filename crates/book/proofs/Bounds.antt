-- What the sizes of a book are bounded by, once they are in range. Assumes nothing.
use Rattle.std.proofs.Common.{◌≡◌, ℕ, suc, ◌+◌, ◌-◌, ◌*◌, ◌%◌, ◌<◌, ◌≤◌, Bool, true, eqb, List, ℤ, pos, negsuc, nat_abs, refl, mul-le-mul_right, mul-le-mul, arith, eqb-true}
use Rattle.arith.specs.Lists.{at}
use Rattle.arith.specs.Tests.{within}
use Rattle.arith.proofs.Tests.{&&-left, &&-right, every-at, within_size, within_half}
use Rattle.book.specs.declared.Sizes.{Sizes}
use Rattle.book.specs.Book.{sizes_of, differences_at, level_taps_at, decimation_taps_at, book_length}
use Rattle.book.specs.Check.{power_of_two, sizes_in_range, coefficients_in_range, words_in_range}

pub record Bounded (s : Sizes) : Type 0 where
  pub taps_low : 2 ≤ s.taps
  pub taps_high : s.taps ≤ 24
  pub taps-even : s.taps % 2 ≡ 0
  pub phases_low : 1 ≤ s.phases
  pub phases_high : s.phases ≤ 128
  pub phases-power : power_of_two s.phases ≡ true
  pub reach_high : s.reach ≤ 40
  pub decimation_high : s.decimation ≤ 40
  pub fade_low : 1 ≤ s.fade
  pub fade_high : s.fade ≤ 256

pub bounded : (b : List ℤ) → sizes_in_range b ≡ true → Bounded (sizes_of b)
unfolding sizes_in_range sizes_of
bounded b e =
    let n = within_size 2 24 (at b 0) (search (&&-left, &&-right)) in
    let m = within_size 1 128 (at b 1) (search (&&-left, &&-right)) in
    let even : eqb (nat_abs (at b 0) % 2) 0 ≡ true = search (&&-left, &&-right) in
    let power : power_of_two (nat_abs (at b 1)) ≡ true = search (&&-left, &&-right) in
    let a = within_size 0 40 (at b 2) (search (&&-left, &&-right)) in
    let d = within_size 0 40 (at b 3) (search (&&-left, &&-right)) in
    let f = within_size 1 256 (at b 4) (search (&&-left, &&-right)) in
    record {
      taps_low = n.0;
      taps_high = n.1;
      taps-even = eqb-true _ _ even;
      phases_low = m.0;
      phases_high = m.1;
      phases-power = power;
      reach_high = a.1;
      decimation_high = d.1;
      fade_low = f.0;
      fade_high = f.1;
    }

-- ---- the length of each array, and of a book

pub array_high : {s : Sizes} → Bounded s → s.phases * s.taps ≤ 3072
array_high f = mul-le-mul f.phases_high f.taps_high

pub array_low : {s : Sizes} → Bounded s → s.taps ≤ s.phases * s.taps
array_low {s} f = let h = mul-le-mul_right s.taps f.phases_low in omega arith

pub length_is : (s : Sizes) → book_length s ≡ 5 + s.phases * s.taps + s.phases * s.taps + (s.reach + 1) + (s.decimation + 1)
unfolding book_length decimation_taps_at level_taps_at differences_at
length_is s = refl

-- tap k of phase q lies in its array
pub row_below : {q m k n : ℕ} → q < m → k < n → q * n + k < m * n
row_below {q} {m} {k} {n} h l = let r : suc q * n ≤ m * n = mul-le-mul_right n h in omega arith

-- the words of the array of impulses, once they are in range
pub impulses_small : (b : List ℤ) → coefficients_in_range b ≡ true → (i : ℕ) → 5 ≤ i → i < 5 + (sizes_of b).phases * (sizes_of b).taps → nat_abs (at b i) ≤ 32768
unfolding coefficients_in_range words_in_range
impulses_small b e i l h =
    let n = (sizes_of b).phases * (sizes_of b).taps in
    let f : ℕ → Bool = λ k. within (negsuc 32767) (pos 32767) (at b (5 + k)) in
    let place : 5 + (i - 5) ≡ i = omega arith in
    rw place at (within_half 32767 (at b (5 + (i - 5))) (every-at n f (&&-left _ _ e) (i - 5) (omega arith)))

-- each part begins where the one before it ends
pub decimation_at : (s : Sizes) → decimation_taps_at s ≡ level_taps_at s + (s.reach + 1)
unfolding decimation_taps_at
decimation_at s = refl

pub end_at : (s : Sizes) → book_length s ≡ decimation_taps_at s + (s.decimation + 1)
unfolding book_length
end_at s = refl
