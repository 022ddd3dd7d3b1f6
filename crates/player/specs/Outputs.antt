-- Outputs (document 01, "One output"): the history and blocks of outputs.
use Rattle.std.specs.Prelude.{List, ◌∷◌, ℕ, zero, suc, ℤ, take}
use Rattle.arith.specs.Lists.{tabulate}
use Rattle.book.specs.Book.{sizes_of}
use Rattle.decimation.specs.Decimation.{output}
use Rattle.control.specs.declared.Control.{Control}
use Rattle.player.specs.declared.Voice.{Voice}
use Rattle.control.specs.declared.Plan.{Plan}
use Rattle.control.specs.Moves.{move_glide, point_plan, move_point, move_output}
use Rattle.points.specs.Points.{point}

-- the 81 newest points, newest first, after one more
unfoldable pub push : ℤ → List ℤ → List ℤ
push x history = x ∷ take 80 history

-- the history after an output that starts from control c: two points, each made from its plan
unfoldable pub push_two : (Plan → ℤ) → ℕ → Control → List ℤ → List ℤ
push_two make F c history =
    let c₁ = move_glide c in
    let c₂ = move_point F c₁ in
    push (make (point_plan c₂)) (push (make (point_plan c₁)) history)

-- the voice after an output
unfoldable pub next_voice : List ℤ → List ℤ → Voice → Voice
next_voice b store v =
    let F = (sizes_of b).fade in
    record { control = move_output F v.control; history = push_two (point b store) F v.control v.history }

-- the voice after n outputs
unfoldable pub voice_after : List ℤ → List ℤ → Voice → ℕ → Voice
voice_after b store v zero = v
voice_after b store v (suc n) = next_voice b store (voice_after b store v n)

-- n outputs
unfoldable pub outputs : List ℤ → List ℤ → Voice → ℕ → List ℤ
outputs b store v n = tabulate n (λ k. output b (voice_after b store v (suc k)).history)
