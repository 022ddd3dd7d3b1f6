-- Two players' states side by side, each a control and points, whatever makes the points: what relates them, and that orders, seeks and
-- outputs keep it. Assumes nothing.
use mathlib.Core.List.{List}
use mathlib.Core.Path.{◌≡◌, refl, sym, ap, ◌∙◌}
use Prim.Native.Nat.{ℕ, ◌≤◌, ◌<◌}
use native.Mathlib.Decide.{dec_lt}
use native.Mathlib.Omega.{arith}
use lib.IntN.{ℤ, pos, nat_abs}
use lib.ListN.{get_or-replicate}
use Rattle.arith.specs.Lists.{at}
use Rattle.arith.proofs.Lists.{at_outside}
use Rattle.control.specs.declared.Control.{Control}
use Rattle.control.specs.declared.Order.{Order}
use Rattle.control.specs.declared.Plan.{Plan}
use Rattle.control.specs.Moves.{sought, move_glide, point_plan, move_point, move_output}
use Rattle.control.specs.Orders.{ordered}
use Rattle.control.specs.Valid.{Valid}
use Rattle.control.proofs.Kept.{move_glide_top, move_glide_valid, move_point_top, move_point_valid, move_output_top, move_output_valid, plan_old, plan_new, plan_step}
use Rattle.refusals.specs.Refusals.{order_number, seek_number, play_state_number}
use Rattle.refusals.proofs.Accepted.{ordered_valid, sought_valid, ordered_top, sought_top}
use Rattle.refusals.proofs.Valid.{play_number_lem, order_number_lem, seek_number_lem}
use Rattle.player.specs.Outputs.{push_two}
use Rattle.player.specs.Calls.{silence}
use Rattle.player.proofs.Histories.{push_two_both}

silent : (k : ℕ) → at silence k ≡ pos 0
silent k = go (dec_lt k 81)
  where
    go : Dec (k < 81) → at silence k ≡ pos 0
    go (yes h) = get_or-replicate 81 k (pos 0) (pos 0) h
    go (no h) = at_outside silence k (omega arith)

-- what holds of every plan with levels up to T and a step up to F
abbrev pub EachPlan : ℕ → ℕ → (Plan → Type 0) → Type 0
EachPlan F T Q = (p : Plan) → p.old ≤ T → p.new ≤ T → p.step ≤ F → Q p

-- for fades of F points and the highest level T: points related by R at each place, within ±bound and within ±bound'
module _ (F T : ℕ) (R : ℤ → ℤ → Type 0) (bound bound' : ℕ) where
  pub record Alike (c : Control) (h : List ℤ) (c' : Control) (h' : List ℤ) : Type 0 where
    pub same : c ≡ c'
    pub valid : Valid F c
    pub top : c.top ≡ T
    pub bounded : (k : ℕ) → nat_abs (at h k) ≤ bound
    pub bounded' : (k : ℕ) → nat_abs (at h' k) ≤ bound'
    pub related : (k : ℕ) → R (at h k) (at h' k)

  -- two ways to make a point by its plan, and a point of silence
  pub record Made (make make' : Plan → ℤ) : Type 0 where
    pub small : EachPlan F T (λ p. nat_abs (make p) ≤ bound)
    pub small' : EachPlan F T (λ p. nat_abs (make' p) ≤ bound')
    pub both : EachPlan F T (λ p. R (make p) (make' p))
    pub none : R (pos 0) (pos 0)

  -- two fresh states
  pub fresh_alike : R (pos 0) (pos 0) → (c : Control) → Valid F c → c.top ≡ T → Alike c silence c silence
  fresh_alike none c s t = record {
    same = refl;
    valid = s;
    top = t;
    bounded = λ k. rw (silent k) (omega arith);
    bounded' = λ k. rw (silent k) (omega arith);
    related = λ k. rw (silent k) none;
  }

module _ {F T : ℕ} {R : ℤ → ℤ → Type 0} {bound bound' : ℕ} {c : Control} {h : List ℤ} {c' : Control} {h' : List ℤ} (r : Alike F T R bound bound' c h c' h') where
  -- ---- a call's number: past the state's own, which none gives, it looks at the arguments and T alone

  pub order_number_same : (o : Order) → order_number c bound h o ≡ order_number c' bound' h' o
  order_number_same o =
      order_number_lem r.valid bound h (λ k l. r.bounded k) o ∙ sym (order_number_lem r.valid bound' h' (λ k l. r.bounded' k) o)
      ∙ ap (λ z. order_number z bound' h' o) r.same

  pub seek_number_same : (P : ℕ) → seek_number c bound h P ≡ seek_number c' bound' h' P
  seek_number_same P =
      seek_number_lem r.valid bound h (λ k l. r.bounded k) P ∙ sym (seek_number_lem r.valid bound' h' (λ k l. r.bounded' k) P)
      ∙ ap (λ z. seek_number z bound' h' P) r.same

  pub play_number_same : (n : ℕ) → play_state_number F T c bound h n ≡ play_state_number F T c' bound' h' n
  play_number_same n =
      play_number_lem r.valid bound h (λ k l. r.bounded k) T n r.top ∙ sym (play_number_lem r.valid bound' h' (λ k l. r.bounded' k) T n r.top)
      ∙ ap (λ z. play_state_number F T z bound' h' n) r.same

  -- ---- an accepted order, an accepted seek and an output

  pub ordered_alike : (o : Order) → order_number c bound h o ≡ 0 → Alike F T R bound bound' (ordered c o) h (ordered c' o) h'
  ordered_alike o accepted = record {
    same = ap (λ z. ordered z o) r.same;
    valid = ordered_valid r.valid o (sym (order_number_lem r.valid bound h (λ k l. r.bounded k) o) ∙ accepted);
    top = ordered_top c o ∙ r.top;
    bounded = r.bounded;
    bounded' = r.bounded';
    related = r.related;
  }

  pub sought_alike : (P : ℕ) → seek_number c bound h P ≡ 0 → Alike F T R bound bound' (sought c P) h (sought c' P) h'
  sought_alike P accepted = record {
    same = ap (λ z. sought z P) r.same;
    valid = sought_valid r.valid P (sym (seek_number_lem r.valid bound h (λ k l. r.bounded k) P) ∙ accepted);
    top = sought_top c P ∙ r.top;
    bounded = r.bounded;
    bounded' = r.bounded';
    related = r.related;
  }

  pub output_alike : {make make' : Plan → ℤ} → Made F T R bound bound' make make' → Alike F T R bound bound' (move_output F c) (push_two make F c h) (move_output F c') (push_two make' F c' h')
  output_alike {make} {make'} made =
      let c₁ = move_glide c in
      let c₂ = move_point F c₁ in
      let s₁ = move_glide_valid r.valid in
      let s₂ = move_point_valid s₁ in
      let t₁ = move_glide_top c ∙ r.top in
      let t₂ = move_point_top F c₁ ∙ t₁ in
      let planned : (Q : ℤ → ℤ → Type 0) → EachPlan F T (λ p. Q (make p) (make' p)) → Q (pos 0) (pos 0)
      → ((k : ℕ) → Q (at h k) (at h' k)) → (k : ℕ) → Q (at (push_two make F c h) k) (at (push_two make' F c' h') k) =
      λ Q each none before. rw (← r.same) (push_two_both Q make make' F c h h' none
      (each (point_plan c₁) (omega (arith, plan_old s₁)) (omega (arith, plan_new s₁)) (plan_step s₁))
      (each (point_plan c₂) (omega (arith, plan_old s₂)) (omega (arith, plan_new s₂)) (plan_step s₂)) before) in
      record {
        same = ap (move_output F) r.same;
        valid = move_output_valid r.valid;
        top = move_output_top F c ∙ r.top;
        bounded = planned (λ x y. nat_abs x ≤ bound) made.small (omega arith) r.bounded;
        bounded' = planned (λ x y. nat_abs y ≤ bound') made.small' (omega arith) r.bounded';
        related = planned R made.both made.none r.related;
      }
