-- What a setting gives: of its book, its T, its samples, and how large exact points are. Assumes nothing.
use mathlib.Core.Bool.{Bool, true}
use mathlib.Core.List.{List}
use mathlib.Core.Path.{◌≡◌, refl}
use Prim.Native.Nat.{ℕ, ◌+◌, ◌*◌, ◌^◌, ◌≤◌, ◌<◌}
use native.Mathlib.Nat.{le_trans, mul-pos, mul-le-mul_right}
use native.Mathlib.Decide.{dec_lt}
use native.Mathlib.Omega.{arith}
use lib.IntN.{ℤ, pos, nat_abs, ◌-ℤ◌, ◌*ℤ◌}
use lib.ListN.{length}
use lib.Pow.{pow_pos, pow_mono}
use Rattle.arith.specs.Lists.{at}
use Rattle.arith.specs.Tests.{every}
use Rattle.arith.proofs.Linear.{linear}
use Rattle.arith.proofs.Lists.{at_outside}
use Rattle.arith.proofs.Tests.{within_half, every-at}
use Rattle.book.specs.Book.{sizes_of, level_taps}
use Rattle.book.specs.Check.{tap_sum}
use Rattle.book.proofs.Accepted.{Accepted, accepted, sizes_bounded, level_taps-sum}
use Rattle.control.specs.declared.Card.{Card}
use Rattle.refusals.proofs.Accepted.{open_top}
use Rattle.values.proofs.Values.{value_sum_apart}
use Rattle.drive.specs.Exact.{exact_point, point_scale, exact_scale}
use Rattle.drive.specs.Lists.{exact_bound}
use Rattle.drive.specs.Demand.{Setting}
use Rattle.drive.proofs.Alike.{EachPlan}
use Rattle.drive.proofs.Distance.{exact_point_apart}
use Rattle.drive.proofs.ExactLevels.{exact_word_apart}

-- a test that holds at each place of a recording, and of 0, holds at every place
pub at_every_place : (test : ℤ → Bool) (samples : List ℤ) → test (pos 0) ≡ true → every (length samples) (λ k. test (at samples k)) ≡ true → (k : ℕ) → test (at samples k) ≡ true
at_every_place test samples none all k = go (dec_lt k (length samples))
  where
    go : Dec (k < length samples) → test (at samples k) ≡ true
    go (yes h) = every-at (length samples) (λ i. test (at samples i)) all k h
    go (no h) = rw (at_outside samples k (omega arith)) none

module _ {b samples : List ℤ} {card : Card} (setting : Setting b samples card) where
  pub right : Accepted b
  right = accepted b setting.book_accepted

  pub fade_low : 1 ≤ (sizes_of b).fade
  fade_low = (sizes_bounded b right).fade_low

  pub top_high : card.top ≤ 4
  top_high = open_top card setting.opening_accepted

  pub taps_small : tap_sum (level_taps b) ≤ 32768
  taps_small = level_taps-sum b right

  pub samples_small : (k : ℕ) → nat_abs (at samples k) ≤ 2 ^ 15
  samples_small k = within_half 32767 (at samples k) (setting.samples_16_bit k)

  pub scale_pos : 0 < exact_scale b card.top
  unfolding exact_scale
  scale_pos = mul-pos (pow_pos (14 * card.top + 60)) fade_low

  -- no more than ±2^29: 2^(10 + T) times a sample
  pub exact_small : EachPlan (sizes_of b).fade card.top (λ p. nat_abs (exact_point b samples card.top p) ≤ exact_bound b samples card.top)
  unfolding exact_bound
  exact_small p from to inside =
      let T = card.top in
      let itself : (x : ℤ) → pos 1 *ℤ x -ℤ pos 0 *ℤ x ≡ x = λ x. simp linear (omega arith) in
      let sampled : (k : ℕ) → nat_abs (pos 1 *ℤ at samples k -ℤ pos 0 *ℤ at samples k) ≤ 2 ^ 15 = λ k. rw (itself (at samples k)) (samples_small k) in
      let words = exact_word_apart (level_taps b) samples samples taps_small refl (pos 1) (pos 0) (2 ^ 15) sampled in
      let pointed = exact_point_apart b samples samples T top_high (pos 1) (pos 0) (2 ^ 15) (value_sum_apart b right) words p from to inside in
      let no_more : 2 ^ (10 + T) * 2 ^ 15 ≤ 2 ^ 29 = omega (arith, pow_mono {i = 10 + T} {j = 14} (omega (arith, top_high))) in
      rw (itself (exact_point b samples T p)) at (le_trans pointed (mul-le-mul_right (point_scale b T) no_more))
