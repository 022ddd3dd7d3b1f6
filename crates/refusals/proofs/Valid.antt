-- A valid control: what the numbers 13 to 16 leave, and what they are where it holds. Assumes nothing.
use mathlib.Core.Path.{◌≡◌, refl, sym, ◌∙◌}
use mathlib.Core.Bool.{Bool, true, false, not, ◌&&◌, ◌||◌}
use mathlib.Core.List.{List}
use Prim.Native.Nat.{ℕ, ◌+◌, ◌^◌, ◌≤◌, ◌<◌}
use native.Mathlib.Decide.{ℕ_discrete}
use native.Mathlib.Omega.{arith}
use borrow.Author.Tests.{ltb-false, leb-false, eqb-true, eqb-false, leb-true, le-ltb, lt-leb, le-leb, eq-eqb, ne_eqb, not-false}
use lib.Dec.{ltb, leb, eqb}
use lib.IntN.{ℤ, nat_abs}
use Rattle.arith.specs.Lists.{at}
use Rattle.arith.proofs.Tests.{every-at, every_all, ||-left, ||-right}
use Rattle.refusal.specs.Number.{refuse, ◌otherwise◌}
use Rattle.refusal.proofs.Numbers.{none_first, none_second, condition_fails, not_refused}
use Rattle.control.specs.declared.Control.{Control}
use Rattle.control.specs.declared.Order.{Order}
use Rattle.control.specs.Valid.{GlideValid, Valid}
use Rattle.refusals.specs.Refusals.{output_count_wrong, position_wrong, levels_wrong, top_wrong, levels_number, fade_wrong, rate_wrong, glide_wrong, history_wrong, late_number, order_input_number, order_number, seek_number, play_state_number}

-- the 81 points of a history lie within ±bound
abbrev pub Within : ℕ → List ℤ → Type 0
Within bound h = (k : ℕ) → k < 81 → nat_abs (at h k) ≤ bound

-- ---- what each condition leaves where it fails

pub levels_right : (c : Control) → levels_wrong c ≡ false → (c.top ≤ 4) × (c.fade.from ≤ c.top) × (c.fade.to ≤ c.top)
unfolding levels_wrong
levels_right c e = (ltb-false _ _ (search (||-left, ||-right)), ltb-false _ _ (search (||-left, ||-right)), ltb-false _ _ (search (||-left, ||-right)))

-- T is in range where neither 13 nor 19 is given
pub top_right : (T : ℕ) (c : Control) → levels_number T c ≡ 0 → c.top ≤ 4
unfolding levels_number
top_right T c e = (levels_right c (condition_fails 12 _ (none_first _ _ e))).0

-- (14 says that two tests differ, or i is too high)
alike : (r q l : Bool) → r && not q || not r && q || l ≡ false → (r ≡ q) × (l ≡ false)
alike true true l e = (refl, e)
alike true false l e = let z : ◌≡◌ {A = ℕ} 0 1 = cc in absurd (omega arith)
alike false true l e = let z : ◌≡◌ {A = ℕ} 0 1 = cc in absurd (omega arith)
alike false false l e = (refl, e)

fade_right : (F : ℕ) (c : Control) → fade_wrong F c ≡ false → (eqb c.fade.step 0 ≡ eqb c.fade.from c.fade.to) × (c.fade.step < F)
unfolding fade_wrong
fade_right F c e =
    let a = alike (eqb c.fade.step 0) (eqb c.fade.from c.fade.to) (leb F c.fade.step) e in
    (a.0, leb-false _ _ a.1)

rate_right : (T R : ℕ) → rate_wrong T R ≡ false → (2 ^ 23 ≤ R) × (R < 2 ^ (28 + T))
unfolding rate_wrong
rate_right T R e = (ltb-false _ _ (||-left _ _ e), leb-false _ _ (||-right (ltb R (2 ^ 23)) _ e))

glide_right : (c : Control) → glide_wrong c ≡ false → (c.glide.count ≡ 0 → ⊥) → GlideValid c.top c.glide
unfolding glide_wrong
glide_right c e n =
    let g = c.glide in
    let e₁ : rate_wrong c.top g.start || rate_wrong c.top g.target || ltb 65536 g.count || leb g.count g.done ≡ false = rw (ne_eqb g.count 0 n) at (||-right (rate_wrong c.top c.rate) _ e) in
    let start = rate_right c.top g.start (search (||-left, ||-right)) in
    let target = rate_right c.top g.target (search (||-left, ||-right)) in
    record {
      start_low = start.0;
      start_high = start.1;
      target_low = target.0;
      target_high = target.1;
      count_high = ltb-false 65536 g.count (search (||-left, ||-right));
      done_high = leb-false g.count g.done (search (||-left, ||-right));
    }

history_right : (bound : ℕ) (h : List ℤ) → history_wrong bound h ≡ false → Within bound h
unfolding history_wrong
history_right bound h e k l = leb-true _ _ (every-at 81 (λ k. leb (nat_abs (at h k)) bound) (not-false _ e) k l)

-- ---- the numbers of a play that is not refused

module _ (F T n bound : ℕ) (c : Control) (h : List ℤ) (e : play_state_number F T c bound h n ≡ 0) where
  levels_on : levels_number T c ≡ 0
  unfolding play_state_number
  levels_on = none_first (levels_number T c) _ e

  pub same_top : c.top ≡ T
  unfolding levels_number top_wrong
  same_top = eqb-true _ _ (not_refused 18 _ (none_second (refuse 13 (levels_wrong c)) _ levels_on))

  fade_on : refuse 14 (fade_wrong F c) otherwise late_number c bound h otherwise refuse 11 (output_count_wrong n) ≡ 0
  unfolding play_state_number
  fade_on = none_second (levels_number T c) _ e

  late_on : late_number c bound h otherwise refuse 11 (output_count_wrong n) ≡ 0
  late_on = none_second (refuse 14 (fade_wrong F c)) _ fade_on

  position_on : refuse 16 (position_wrong c.position) otherwise refuse 17 (history_wrong bound h) ≡ 0
  unfolding late_number
  position_on = none_second (refuse 15 (glide_wrong c)) _ (none_first (late_number c bound h) _ late_on)

  pub valid_of : Valid F c
  unfolding levels_number late_number glide_wrong position_wrong
  valid_of =
      let levels = levels_right c (condition_fails 12 _ (none_first _ _ levels_on)) in
      let fade = fade_right F c (condition_fails 13 _ (none_first _ _ fade_on)) in
      let glide : glide_wrong c ≡ false = condition_fails 14 _ (none_first _ _ (none_first (late_number c bound h) _ late_on)) in
      let rate = rate_right c.top c.rate (||-left _ _ glide) in
      record {
        top_high = levels.0;
        from_high = levels.1;
        to_high = levels.2;
        step_low = fade.1;
        resting = λ z. eqb-true _ _ (sym fade.0 ∙ eq-eqb _ _ z);
        fading = λ z. eqb-false _ _ (sym fade.0 ∙ ne_eqb _ _ z);
        rate_low = rate.0;
        rate_high = rate.1;
        glide_valid = glide_right c glide;
        position_high = ltb-false _ _ (condition_fails 15 _ (none_first _ _ position_on));
      }

  pub history_of : Within bound h
  history_of = history_right bound h (condition_fails 16 _ (none_second (refuse 16 (position_wrong c.position)) _ position_on))

  pub count_of : n ≤ 1048576
  unfolding output_count_wrong
  count_of = ltb-false _ _ (condition_fails 10 _ (none_second (late_number c bound h) _ late_on))

-- ---- the numbers of a valid control, over a history within its bound

module _ {F : ℕ} {c : Control} (s : Valid F c) where
  levels_valid : levels_wrong c ≡ false
  unfolding levels_wrong
  levels_valid = rw (le-ltb 4 c.top s.top_high, le-ltb c.top c.fade.from s.from_high, le-ltb c.top c.fade.to s.to_high)

  fade_valid : fade_wrong F c ≡ false
  unfolding fade_wrong
  fade_valid = go (ℕ_discrete c.fade.step 0)
    where
      go : Dec (c.fade.step ≡ 0) → fade_wrong F c ≡ false
      go (yes z) = rw (eq-eqb c.fade.step 0 z, eq-eqb c.fade.from c.fade.to (s.resting z), lt-leb F c.fade.step s.step_low)
      go (no z) = rw (ne_eqb c.fade.step 0 z, ne_eqb c.fade.from c.fade.to (s.fading z), lt-leb F c.fade.step s.step_low)

  rate_valid : (R : ℕ) → 2 ^ 23 ≤ R → R < 2 ^ (28 + c.top) → rate_wrong c.top R ≡ false
  unfolding rate_wrong
  rate_valid R l u = rw (le-ltb R (2 ^ 23) l, lt-leb (2 ^ (28 + c.top)) R u)

  glides_valid : glide_wrong c ≡ false
  unfolding glide_wrong
  glides_valid = go (ℕ_discrete c.glide.count 0)
    where
      rate : rate_wrong c.top c.rate ≡ false
      rate = rate_valid c.rate s.rate_low s.rate_high

      go : Dec (c.glide.count ≡ 0) → glide_wrong c ≡ false
      go (yes z) = rw (rate, eq-eqb c.glide.count 0 z)
      go (no z) =
          let r = s.glide_valid z in
          let start = rate_valid c.glide.start r.start_low r.start_high in
          let target = rate_valid c.glide.target r.target_low r.target_high in
          rw (rate, ne_eqb c.glide.count 0 z, start, target, le-ltb 65536 c.glide.count r.count_high, lt-leb c.glide.count c.glide.done r.done_high)

  module _ (bound : ℕ) (h : List ℤ) (w : Within bound h) where
    late_number_lem : late_number c bound h ≡ 0
    unfolding late_number position_wrong history_wrong refuse ◌otherwise◌
    late_number_lem = rw (glides_valid, le-ltb (2 ^ 60) c.position s.position_high, every_all 81 (λ k. leb (nat_abs (at h k)) bound) (λ k l. le-leb (nat_abs (at h k)) bound (w k l)))

    pub play_number_lem : (T n : ℕ) → c.top ≡ T → play_state_number F T c bound h n ≡ refuse 11 (output_count_wrong n)
    unfolding play_state_number levels_number top_wrong refuse ◌otherwise◌
    play_number_lem T n t = rw (levels_valid, eq-eqb c.top T t, fade_valid, late_number_lem)

    pub order_number_lem : (o : Order) → order_number c bound h o ≡ order_input_number c.top o
    unfolding order_number refuse ◌otherwise◌
    order_number_lem o = rw (levels_valid, late_number_lem)

    pub seek_number_lem : (P : ℕ) → seek_number c bound h P ≡ refuse 12 (position_wrong P)
    unfolding seek_number refuse ◌otherwise◌
    seek_number_lem P = rw (levels_valid, late_number_lem)
