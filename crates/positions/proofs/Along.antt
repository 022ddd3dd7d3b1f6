-- What holds along a run of outputs: the positions of its points are written, and the control is the one after them. Assumes nothing.
use mathlib.Core.Path.{◌≡◌, refl, sym, ap, ap₂, subst, ◌∙◌}
use mathlib.Core.List.{List}
use Prim.Native.Nat.{ℕ, suc, ◌+◌, ◌-◌, ◌*◌, ◌^◌, ◌≤◌, ◌<◌, min}
use native.Mathlib.Decide.{dec_lt, ℕ_discrete}
use native.Mathlib.Omega.{arith}
use lib.ListN.{length, get_or, set, length-set}
use lib.Seq.{get_or-set_same, get_or-set_other}
use Rattle.control.specs.declared.Control.{Control}
use Rattle.control.specs.declared.Fade.{Fade}
use Rattle.control.specs.declared.Plan.{Plan}
use Rattle.control.specs.Rate.{asked_level, advance}
use Rattle.control.specs.Moves.{move_glide, point_plan, fade_after, move_point, move_output}
use Rattle.control.specs.Valid.{Valid}
use Rattle.positions.specs.Runs.{control_after, first_plan, second_plan, run_plan}
use Rattle.positions.specs.Inner.{left_of, left_of_fade, rate_at, glide_at, control_at}
use Rattle.control.proofs.Kept.{move_glide_valid, move_point_valid}
use Rattle.positions.proofs.Glides.{control_fits, rate_at_high, control_none, control_some, control_next}
use Rattle.positions.proofs.Plans.{plan_none, fade_at, fade_some, plan_next}

-- the control after i outputs from c that brought P there, p being the plan of their first point
abbrev pub reached : ℕ → Control → Plan → ℕ → ℕ → Control
reached F c p i P = control_at c (fade_at F c.fade p i) i P

-- the positions ps of the points of those outputs
pub record Along (F : ℕ) (c : Control) (p : Plan) (ps : List ℕ) (i P : ℕ) : Type 0 where
  pub after : reached F c p i P ≡ control_after F c i
  pub valid : Valid F (reached F c p i P)
  pub high : P ≤ c.position + i * 2 ^ 33
  pub plans : (k : ℕ) → k < i → (first_plan F c k ≡ run_plan p (2 * k) (get_or ps (2 * k) 0)) × (second_plan F c k ≡ run_plan p (2 * k + 1) (get_or ps (2 * k + 1) 0))
  pub below : (k : ℕ) → k < 2 * i → get_or ps k 0 ≤ P
  pub rising : (j k : ℕ) → j ≤ k → k < 2 * i → get_or ps j 0 ≤ get_or ps k 0

pub along_none : {F : ℕ} {c : Control} (p : Plan) (ps : List ℕ) → Valid F c → Along F c p ps 0 c.position
unfolding control_after fade_at
along_none {F} p ps s = record {
  after = control_none (control_fits s);
  valid = subst (Valid F) (sym (control_none (control_fits s))) s;
  high = omega arith;
  plans = λ k l. absurd (omega arith);
  below = λ k l. absurd (omega arith);
  rising = λ j k h l. absurd (omega arith);
}

-- ---- one output more, at rate N

module _ {F : ℕ} {c : Control} {p : Plan} {ps : List ℕ} {i : ℕ} (P N : ℕ) (a : Along F c p ps i P) (s : Valid F c) (near : suc i ≤ 64) (left : left_of c.glide (suc i)) (N-is : N ≡ rate_at c (suc i))
    (inside : c.position ≤ 2 ^ 60 - 2 ^ 40) where
  -- 128 points at rates up to 2^32 stay below 2^60
  pub run_high : P + 2 * N ≤ 2 ^ 60
  run_high = omega (arith, a.high, rate_at_high (control_fits s) (suc i) left, N-is, near, inside)

  module _ (first-is : p ≡ first_plan F c 0) (stays : p.step ≡ 0 → asked_level p.old N ≡ p.old) (fades : left_of_fade F p (suc i)) (some : 1 ≤ F) where
    -- the glide being one output further
    abbrev at : Fade → ℕ → Control
    at f Q = record { top = c.top; fade = f; rate = N; glide = glide_at c.glide (suc i); position = Q }

    at_is : (f : Fade) (Q : ℕ) → control_at c f (suc i) Q ≡ at f Q
    at_is f Q = control_some c f i Q ∙ ap (λ R. record { top = c.top; fade = f; rate = R; glide = glide_at c.glide (suc i); position = Q }) (sym N-is)

    -- a point more
    moved : (f : Fade) (k Q : ℕ) → point_plan (at f Q) ≡ run_plan p k Q → Q + N ≤ 2 ^ 60 → move_point F (at f Q) ≡ at (fade_after F (run_plan p k 0)) (Q + N)
    unfolding move_point fade_after advance
    moved f k Q e h = let far : min (Q + N) (2 ^ 60) ≡ Q + N = omega arith in ap₂ at (ap (fade_after F) e) far

    -- the fade before the first point, and before the second
    abbrev f₁ : Fade
    f₁ = fade_at F c.fade p i

    abbrev f₂ : Fade
    f₂ = fade_after F (run_plan p (2 * i) 0)

    one_is : move_glide (reached F c p i P) ≡ at f₁ P
    one_is = sym (control_next c f₁ i P left) ∙ at_is f₁ P

    one_valid : Valid F (at f₁ P)
    one_valid = subst (Valid F) one_is (move_glide_valid a.valid)

    first_plan_lem : first_plan F c i ≡ point_plan (at f₁ P)
    first_plan_lem = ap (λ x. point_plan (move_glide x)) (sym a.after) ∙ ap point_plan one_is

    at_position : (x : Control) → (point_plan x).position ≡ x.position
    unfolding point_plan
    at_position x = refl

    first : point_plan (at f₁ P) ≡ run_plan p (2 * i) P
    first = go (ℕ_discrete i 0)
      where
        go : Dec (i ≡ 0) → point_plan (at f₁ P) ≡ run_plan p (2 * i) P
        go (yes z) =
            let here : p ≡ point_plan (at f₁ P) = first-is ∙ ap (first_plan F c) (sym z) ∙ first_plan_lem in
            let place : p.position ≡ P = ap (λ q. q.position) here ∙ at_position (at f₁ P) in
            let e : 0 ≡ 2 * i = omega arith in
            sym here ∙ sym (plan_none p) ∙ ap₂ (run_plan p) e place
        go (no n) =
            let e : 2 * i - 1 + 1 ≡ 2 * i = omega arith in
            plan_next one_valid p (2 * i - 1) (fade_some F c.fade p i n) stays (λ m. omega (arith, fades m)) some ∙ ap (λ k. run_plan p k P) e

    two_is : move_point F (at f₁ P) ≡ at f₂ (P + N)
    two_is = moved f₁ (2 * i) P first (omega (arith, run_high))

    two_valid : Valid F (at f₂ (P + N))
    two_valid = subst (Valid F) two_is (move_point_valid one_valid)

    second : point_plan (at f₂ (P + N)) ≡ run_plan p (2 * i + 1) (P + N)
    second = plan_next two_valid p (2 * i) refl stays (λ m. omega (arith, fades m)) some

    second_plan_lem : second_plan F c i ≡ point_plan (at f₂ (P + N))
    second_plan_lem = ap (λ x. point_plan (move_point F (move_glide x))) (sym a.after) ∙ ap (λ x. point_plan (move_point F x)) one_is ∙ ap point_plan two_is

    three_is : move_point F (at f₂ (P + N)) ≡ reached F c p (suc i) (P + 2 * N)
    three_is =
        let e : P + N + N ≡ P + 2 * N = omega arith in
        let k : 2 * i + 1 ≡ 2 * suc i - 1 = omega arith in
        moved f₂ (2 * i + 1) (P + N) second (omega (arith, run_high))
        ∙ ap₂ at (ap (λ m. fade_after F (run_plan p m 0)) k ∙ sym (fade_some F c.fade p (suc i) (λ z. absurd (omega arith)))) e
        ∙ sym (at_is (fade_at F c.fade p (suc i)) (P + 2 * N))

    -- the positions with two more
    abbrev ps' : List ℕ
    ps' = set (set ps (2 * i) P) (2 * i + 1) (P + N)

    module _ (room : 2 * i + 1 < length ps) where
      at_first : get_or ps' (2 * i) 0 ≡ P
      at_first = get_or-set_other (set ps (2 * i) P) (2 * i + 1) (2 * i) (P + N) 0 (λ e. absurd (omega arith)) ∙ get_or-set_same ps (2 * i) P 0 (omega arith)

      at_second : get_or ps' (2 * i + 1) 0 ≡ P + N
      at_second = get_or-set_same (set ps (2 * i) P) (2 * i + 1) (P + N) 0 (rw (length-set ps (2 * i) P) room)

      at_before : (k : ℕ) → k < 2 * i → get_or ps' k 0 ≡ get_or ps k 0
      at_before k h = get_or-set_other (set ps (2 * i) P) (2 * i + 1) k (P + N) 0 (λ e. absurd (omega arith)) ∙ get_or-set_other ps (2 * i) k P 0 (λ e. absurd (omega arith))

      plans-more : (k : ℕ) → k < suc i → Dec (k ≡ i) → (first_plan F c k ≡ run_plan p (2 * k) (get_or ps' (2 * k) 0)) × (second_plan F c k ≡ run_plan p (2 * k + 1) (get_or ps' (2 * k + 1) 0))
      plans-more k h (yes e) = rw (e, at_first, at_second) (first_plan_lem ∙ first, second_plan_lem ∙ second)
      plans-more k h (no e) =
          let q = a.plans k (omega arith) in
          rw (at_before (2 * k) (omega arith), at_before (2 * k + 1) (omega arith)) q

      -- up to the first of them all lie at P or before, from there on at P or behind
      before-P : (k : ℕ) → k ≤ 2 * i → Dec (k ≡ 2 * i) → get_or ps' k 0 ≤ P
      before-P k h (yes e) = rw (e, at_first) (omega arith)
      before-P k h (no e) = rw (at_before k (omega arith)) (a.below k (omega arith))

      behind-P : (k : ℕ) → 2 * i ≤ k → k < 2 * suc i → Dec (k ≡ 2 * i) → (P ≤ get_or ps' k 0) × (get_or ps' k 0 ≤ P + 2 * N)
      behind-P k l h (yes e) = rw (e, at_first) (omega arith, omega arith)
      behind-P k l h (no e) =
          let f : k ≡ 2 * i + 1 = omega arith in
          rw (f, at_second) (omega arith, omega arith)

      below_more : (k : ℕ) → k < 2 * suc i → Dec (k < 2 * i) → get_or ps' k 0 ≤ P + 2 * N
      below_more k h (yes l) = omega (arith, before-P k (omega arith) (ℕ_discrete k (2 * i)))
      below_more k h (no l) = (behind-P k (omega arith) h (ℕ_discrete k (2 * i))).1

      rising-more : (j k : ℕ) → j ≤ k → k < 2 * suc i → Dec (j ≡ k) → Dec (k < 2 * i) → get_or ps' j 0 ≤ get_or ps' k 0
      rising-more j k h u (yes e) d = rw e (omega arith)
      rising-more j k h u (no e) (yes l) = rw (at_before j (omega arith), at_before k l) (a.rising j k h l)
      rising-more j k h u (no e) (no l) = omega (arith, before-P j (omega arith) (ℕ_discrete j (2 * i)), (behind-P k (omega arith) u (ℕ_discrete k (2 * i))).0)

      after_more : reached F c p (suc i) (P + 2 * N) ≡ control_after F c (suc i)
      unfolding control_after move_output
      after_more = sym three_is ∙ ap (move_point F) (sym two_is) ∙ ap (λ x. move_point F (move_point F x)) (sym one_is) ∙ ap (move_output F) a.after

      pub along-more : Along F c p ps' (suc i) (P + 2 * N)
      along-more = record {
        after = after_more;
        valid = subst (Valid F) three_is (move_point_valid two_valid);
        high = omega (arith, a.high, rate_at_high (control_fits s) (suc i) left, N-is);
        plans = λ k h. plans-more k h (ℕ_discrete k i);
        below = λ k h. below_more k h (dec_lt k (2 * i));
        rising = λ j k l h. rising-more j k l h (ℕ_discrete j k) (dec_lt k (2 * i));
      }
