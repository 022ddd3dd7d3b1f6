-- The laws of a run of outputs: its control, its points and the histories along it, and the line of points that holds them. Assumes
-- nothing.
use mathlib.Core.Path.{◌≡◌, refl, sym, ap, ap₂, ◌∙◌}
use mathlib.Core.List.{List, ◌∷◌, ◌++◌}
use Prim.Native.Nat.{ℕ, zero, suc}
use native.Mathlib.Omega.{arith}
use lib.IntN.{ℤ}
use lib.ListN.{take}
use lib.Seq.{take-take}
use Rattle.book.specs.Book.{sizes_of}
use Rattle.player.specs.declared.Voice.{Voice}
use Rattle.control.specs.Moves.{move_output}
use Rattle.points.specs.Points.{point}
use Rattle.player.specs.Outputs.{push, push_two, next_voice, voice_after}
use Rattle.positions.specs.Runs.{control_after, first_plan, second_plan}
use Rattle.points.specs.Runs.{run_points}

module _ (b store : List ℤ) (v : Voice) where
  abbrev F : ℕ
  F = (sizes_of b).fade

  abbrev run : ℕ → List ℤ
  run = run_points (point b store) F v.control

  pub control_after_lem : (n : ℕ) → (voice_after b store v n).control ≡ control_after F v.control n
  unfolding voice_after next_voice control_after
  control_after_lem zero = refl
  control_after_lem (suc n) = ap (move_output F) (control_after_lem n)

  -- two more points leave the 79 newest of those before
  two_more : (x y : ℤ) (l : List ℤ) → push y (push x (take 81 l)) ≡ take 81 (y ∷ x ∷ l)
  unfolding push
  two_more x y l = ap (λ t. y ∷ x ∷ t) (take-take 79 80 (take 81 l) (omega arith) ∙ take-take 79 81 l (omega arith))

  pub history_after : (n : ℕ) → take 81 v.history ≡ v.history → (voice_after b store v n).history ≡ take 81 (run n ++ v.history)
  unfolding voice_after next_voice push_two run_points
  history_after zero e = sym e
  history_after (suc n) e =
      ap₂ (push_two (point b store) F) (control_after_lem n) (history_after n e)
      ∙ two_more (point b store (first_plan F v.control n)) (point b store (second_plan F v.control n)) (run n ++ v.history)
