-- The laws of histories: which words a push leaves where. Assumes nothing.
use mathlib.Core.Path.{◌≡◌, refl, ap, ◌∙◌}
use mathlib.Core.List.{List}
use Prim.Native.Nat.{ℕ, zero, suc, ◌≤◌, ◌<◌}
use native.Mathlib.Decide.{dec_lt}
use native.Mathlib.Omega.{arith}
use lib.IntN.{ℤ, pos}
use lib.ListN.{length, take, length-take}
use lib.Seq.{get_or-take}
use Rattle.arith.specs.Lists.{at}
use Rattle.arith.proofs.Lists.{at_outside}
use Rattle.control.specs.declared.Control.{Control}
use Rattle.control.specs.declared.Plan.{Plan}
use Rattle.control.specs.Moves.{move_glide, point_plan, move_point}
use Rattle.player.specs.Outputs.{push, push_two}

-- ---- one more point

module _ (x : ℤ) (h : List ℤ) where
  pub length_push : length h ≡ 81 → length (push x h) ≡ 81
  unfolding push
  length_push e = ap suc (length-take 80 h ∙ omega arith)

  pub at-push-zero : at (push x h) 0 ≡ x
  unfolding push
  at-push-zero = refl

  pub at-push-suc : (k : ℕ) → k < 80 → at (push x h) (suc k) ≡ at h k
  unfolding push
  at-push-suc k l = get_or-take 80 h k (pos 0) l

  -- the 82nd newest point and those before it are left out
  pub at_push_outside : (k : ℕ) → 80 ≤ k → at (push x h) (suc k) ≡ pos 0
  unfolding push
  at_push_outside k l = at_outside (take 80 h) k (simp length-take (omega arith))

-- what holds of 0, of the new points and of the words before holds of every word, of two histories side by side
push_both : (R : ℤ → ℤ → Type 0) (x x' : ℤ) (h h' : List ℤ) → R (pos 0) (pos 0) → R x x' → ((k : ℕ) → R (at h k) (at h' k))
    → (k : ℕ) → R (at (push x h) k) (at (push x' h') k)
push_both R x x' h h' none new before zero = rw (at-push-zero x h, at-push-zero x' h') new
push_both R x x' h h' none new before (suc k) = go (dec_lt k 80)
  where
    go : Dec (k < 80) → R (at (push x h) (suc k)) (at (push x' h') (suc k))
    go (yes l) = rw (at-push-suc x h k l, at-push-suc x' h' k l) (before k)
    go (no l) = rw (at_push_outside x h k (omega arith), at_push_outside x' h' k (omega arith)) none

-- ---- the two points of an output

pub length-push_two : (make : Plan → ℤ) (F : ℕ) (c : Control) (h : List ℤ) → length h ≡ 81 → length (push_two make F c h) ≡ 81
unfolding push_two
length-push_two make F c h e =
    let x = make (point_plan (move_glide c)) in
    let y = make (point_plan (move_point F (move_glide c))) in
    length_push y (push x h) (length_push x h e)

-- of two histories side by side
pub push_two_both : (R : ℤ → ℤ → Type 0) (make make' : Plan → ℤ) (F : ℕ) (c : Control) (h h' : List ℤ) → R (pos 0) (pos 0)
    → R (make (point_plan (move_glide c))) (make' (point_plan (move_glide c)))
    → R (make (point_plan (move_point F (move_glide c)))) (make' (point_plan (move_point F (move_glide c))))
    → ((k : ℕ) → R (at h k) (at h' k)) → (k : ℕ) → R (at (push_two make F c h) k) (at (push_two make' F c h') k)
unfolding push_two
push_two_both R make make' F c h h' none first second before =
    let plan₁ = point_plan (move_glide c) in
    let plan₂ = point_plan (move_point F (move_glide c)) in
    push_both R (make plan₂) (make' plan₂) (push (make plan₁) h) (push (make' plan₁) h') none second (push_both R (make plan₁) (make' plan₁) h h' none first before)

-- of one history
pub push_two_all : (Q : ℤ → Type 0) (make : Plan → ℤ) (F : ℕ) (c : Control) (h : List ℤ) → Q (pos 0) → Q (make (point_plan (move_glide c)))
    → Q (make (point_plan (move_point F (move_glide c)))) → ((k : ℕ) → Q (at h k)) → (k : ℕ) → Q (at (push_two make F c h) k)
push_two_all Q make F c h = push_two_both (λ x x'. Q x) make make F c h h
