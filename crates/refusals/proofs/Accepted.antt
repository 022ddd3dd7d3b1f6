-- An accepted opening makes a valid control, and accepted orders and seeks keep it valid. Assumes nothing.
use mathlib.Core.Path.{◌≡◌, refl}
use mathlib.Core.Bool.{true, not}
use Prim.Native.Nat.{ℕ, ◌≤◌}
use native.Mathlib.Omega.{arith}
use borrow.Author.Tests.{ltb-false, eqb-false}
use lib.Dec.{eqb}
use lib.IntN.{pos}
use Rattle.arith.proofs.Tests.{||-left, ||-right}
use Rattle.refusal.specs.Number.{refuse}
use Rattle.refusal.proofs.Numbers.{none_first, none_second, condition_fails, not_refused}
use Rattle.store.specs.Sizes.{top_in_range}
use Rattle.store.proofs.Ranges.{top_high}
use Rattle.control.specs.declared.Card.{Card}
use Rattle.control.specs.declared.Control.{Control}
use Rattle.control.specs.declared.Order.{Order}
use Rattle.control.specs.declared.Order.TheVariants.{Jump, Glide}
use Rattle.control.specs.Rate.{rate_in_range, rate_of}
use Rattle.control.specs.Moves.{no_glide, fresh_control, jumped, gliding, sought}
use Rattle.control.specs.Orders.{ordered}
use Rattle.control.specs.Valid.{GlideValid, Valid}
use Rattle.refusals.specs.Refusals.{glide_count_wrong, position_wrong, open_number, order_input_number}
use Rattle.control.proofs.Rates.{rate_low, rate_high, octave-≤}
use Rattle.control.proofs.Kept.{moved_valid}

-- ---- opening

module _ (card : Card) (e : open_number card ≡ 0) where
  pub open_top : card.top ≤ 4
  unfolding open_number
  open_top = top_high (pos card.top) (not_refused 7 (top_in_range (pos card.top)) (none_first _ _ e))

  pub open_rate : rate_in_range card.rate card.top ≡ true
  unfolding open_number
  open_rate = not_refused 9 _ (none_second (refuse 8 (not (top_in_range (pos card.top)))) _ e)

-- a fresh control is at rest, at the level of its rate's octave
pub fresh_valid : (F : ℕ) (card : Card) → 1 ≤ F → open_number card ≡ 0 → Valid F (fresh_control card.top (rate_of card.rate))
unfolding fresh_control
fresh_valid F card f e =
    let low = rate_low card.rate card.top (open_rate card e) in
    let high = rate_high card.rate card.top (open_rate card e) in
    let octave = octave-≤ (rate_of card.rate) card.top high in
    record {
      top_high = open_top card e;
      from_high = octave;
      to_high = octave;
      step_low = f;
      resting = λ z. refl;
      fading = λ n. absurd (n refl);
      rate_low = low;
      rate_high = high;
      glide_valid = λ n. absurd (n refl);
      position_high = omega arith;
    }

-- ---- orders and seek

-- a jump ends the glide; a glide order starts one at the rate of now
pub ordered_valid : {F : ℕ} {c : Control} → Valid F c → (o : Order) → order_input_number c.top o ≡ 0 → Valid F (ordered c o)
unfolding order_input_number ordered jumped gliding glide_count_wrong
ordered_valid {F} {c} s (Jump r) e =
    let range = not_refused 9 _ e in
    moved_valid s (rate_of r) (rate_low r c.top range) (rate_high r c.top range) no_glide (λ n. absurd (n refl)) c.position s.position_high
ordered_valid {F} {c} s (Glide r count) e =
    let range = not_refused 9 _ (none_first _ _ e) in
    let counted = condition_fails 10 _ (none_second (refuse 10 (not (rate_in_range r c.top))) _ e) in
    let none : count ≡ 0 → ⊥ = eqb-false count 0 (||-left _ _ counted) in
    let started : GlideValid c.top (record { start = c.rate; target = rate_of r; count = count; done = 0 }) = record {
      start_low = s.rate_low;
      start_high = s.rate_high;
      target_low = rate_low r c.top range;
      target_high = rate_high r c.top range;
      count_high = ltb-false 65536 count (||-right (eqb count 0) _ counted);
      done_high = omega arith;
    } in
    moved_valid s c.rate s.rate_low s.rate_high _ (λ n. started) c.position s.position_high

pub sought_valid : {F : ℕ} {c : Control} → Valid F c → (P : ℕ) → refuse 12 (position_wrong P) ≡ 0 → Valid F (sought c P)
unfolding sought position_wrong
sought_valid {F} {c} s P e = moved_valid s c.rate s.rate_low s.rate_high c.glide s.glide_valid P (ltb-false _ _ (condition_fails 11 _ e))

pub ordered_top : (c : Control) (o : Order) → (ordered c o).top ≡ c.top
unfolding ordered jumped gliding
ordered_top c (Jump r) = refl
ordered_top c (Glide r count) = refl

pub sought_top : (c : Control) (P : ℕ) → (sought c P).top ≡ c.top
unfolding sought
sought_top c P = refl
