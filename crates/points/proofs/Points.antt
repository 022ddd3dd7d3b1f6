-- The laws of points: what a plan reads, how large a point is, and the point of a plan without a fade. Assumes nothing.
use mathlib.Core.Bool.{Bool, true, false, cond}
use mathlib.Core.Path.{◌≡◌, refl, ap, ◌∙◌}
use mathlib.Core.List.{List}
use Prim.Native.Nat.{ℕ, zero, suc, ◌+◌, ◌-◌, ◌^◌, ◌≤◌}
use native.Mathlib.Nat.{add-zero}
use native.Mathlib.Omega.{arith}
use borrow.Author.Tests.{ne_eqb}
use lib.Dec.{eqb}
use lib.IntN.{ℤ, pos, nat_abs, ◌+ℤ◌, ◌*ℤ◌}
use Rattle.arith.specs.Floor.{near}
use Rattle.arith.proofs.Linear.{abs-*}
use Rattle.arith.proofs.Integers.{abs_triangle}
use Rattle.arith.proofs.Floor.{near_bound}
use Rattle.book.specs.Book.{sizes_of}
use Rattle.book.proofs.Accepted.{Accepted, sizes_bounded}
use Rattle.values.specs.Values.{value}
use Rattle.values.proofs.Values.{mean-≤, value_small}
use Rattle.control.specs.declared.Plan.{Plan}
use Rattle.points.specs.Points.{point}
use Rattle.points.specs.Inner.{faded}
use Rattle.control.specs.declared.Control.{Control}
use Rattle.control.specs.Moves.{point_plan}
use Rattle.control.specs.Valid.{Valid}
use Rattle.positions.specs.Runs.{run_plan}
use Rattle.control.proofs.Kept.{plan_old, plan_new, plan_step, plan_position}

-- ---- what a point reads: levels up to the control's top one, i up to F, P up to 2^60

pub plan_read : {F : ℕ} {c : Control} → Valid F c → (p : Plan) → p ≡ point_plan c → (p.old ≤ c.top) × (p.new ≤ c.top) × (p.step ≤ F) × (p.position ≤ 2 ^ 60)
plan_read s p e = rw e (plan_old s, plan_new s, plan_step s, plan_position s)

-- ---- how large a point is

-- a point is a value or a mean of two
pub point_bound_lem : (b : List ℤ) → Accepted b → (store : List ℤ) (p : Plan) → p.old ≤ 4 → p.new ≤ 4 → p.step ≤ (sizes_of b).fade → nat_abs (point b store p) ≤ 2 ^ 29
unfolding point
point_bound_lem b a store p h k m = go (eqb p.step 0)
  where
    old : ℤ
    old = value b store p.old p.position

    new : ℤ
    new = value b store p.new p.position

    F : ℕ
    F = (sizes_of b).fade

    go : (t : Bool) → nat_abs (cond t old (near (pos (F - p.step) *ℤ old +ℤ pos p.step *ℤ new) F)) ≤ 2 ^ 29
    go true = value_small b a store p.old p.position h
    go false =
        let r = F - p.step in
        let mixed = pos r *ℤ old +ℤ pos p.step *ℤ new in
        near_bound mixed (sizes_bounded b a).fade_low (2 ^ 29) (omega (
          arith,
          abs_triangle (pos r *ℤ old) (pos p.step *ℤ new),
          abs-* (pos r) old,
          abs-* (pos p.step) new,
          mean-≤ r p.step (value_small b a store p.old p.position h) (value_small b a store p.new p.position k),
        ))

-- a valid control's point
pub point_small : (b store : List ℤ) → Accepted b → {c : Control} → Valid (sizes_of b).fade c → nat_abs (point b store (point_plan c)) ≤ 2 ^ 29
point_small b store a {c} s = point_bound_lem b a store (point_plan c) (omega (arith, plan_old s, s.top_high)) (omega (arith, plan_new s, s.top_high)) (plan_step s)

-- ---- along a run

module _ (b store : List ℤ) (p : Plan) (k P : ℕ) where
  abbrev old : ℤ
  old = value b store p.old P

  abbrev new : ℤ
  new = value b store p.new P

  -- the point at step s
  abbrev at_step : ℕ → ℤ
  at_step s = cond (eqb s 0) old (faded (sizes_of b).fade s old new)

  stepped : point b store (run_plan p k P) ≡ at_step (cond (eqb p.step 0) 0 (p.step + k))
  unfolding point faded
  stepped = refl

  -- without a fade
  pub steady_point : p.step ≡ 0 → point b store (run_plan p k P) ≡ value b store p.old P
  steady_point e = stepped ∙ ap (λ s. at_step (cond (eqb s 0) 0 (s + k))) e

  -- inside one, where i grows by 1 with each point
  pub fading_point : (p.step ≡ 0 → ⊥) → point b store (run_plan p k P) ≡ faded (sizes_of b).fade (p.step + k) (value b store p.old P) (value b store p.new P)
  fading_point n =
      stepped
      ∙ ap (λ t. at_step (cond t 0 (p.step + k))) (ne_eqb p.step 0 n)
      ∙ ap (λ t. cond t old (faded (sizes_of b).fade (p.step + k) old new)) (ne_eqb (p.step + k) 0 (λ e. n (omega arith)))

-- the first plan of a run is its own
pub first-is : (p : Plan) → run_plan p 0 p.position ≡ p
first-is p = ap (λ s. record { old = p.old; new = p.new; step = s; position = p.position }) (none_more p.step)
  where
    none_more : (s : ℕ) → cond (eqb s 0) 0 (s + 0) ≡ s
    none_more zero = refl
    none_more (suc s) = ap (λ t. cond t 0 (suc s + 0)) (ne_eqb (suc s) 0 (λ e. omega arith)) ∙ add-zero (suc s)
