-- The exact player (document 01, "The exact sum"): "One output" with every near left out and floors kept, in a state of its own.
-- Its fractions are held as whole numbers over scales that nothing is lost at:
--   word n of level j is     exact_level .. j [n] × 2^8 / 2^(14j): level 0 is sample × 256, and each level divides by 16384 = 2^14;
--   a value of level l is    value_sum over those words × 2^8 / (2^(14l) × 2^14 × unit l) = that sum / 2^(15l + 34), unit l being 2^(28+l);
--   a point is               exact_point / (2^(14T + 38) × F): 2^(15l + 34) divides 2^(14T + 38), since l ≤ T and l ≤ 4;
--   an output's sum is       output_sum over those points / 2^22, so output_sum / (2^(14T + 60) × F).
use Rattle.std.specs.Prelude.{cond, List, ℕ, zero, suc, ◌+◌, ◌-◌, ◌*◌, ◌^◌, eqb, ℤ, pos, negsuc, ◌+ℤ◌, ◌*ℤ◌, length}
use Rattle.arith.specs.Lists.{word_at, tabulate}
use Rattle.book.specs.Book.{sizes_of, level_taps}
use Rattle.octave.specs.Octave.{half_length, level_sum}
use Rattle.control.specs.declared.Card.{Card}
use Rattle.control.specs.declared.Control.{Control}
use Rattle.control.specs.Rate.{rate_of}
use Rattle.control.specs.declared.Plan.{Plan}
use Rattle.control.specs.Moves.{fresh_control, move_output}
use Rattle.arith.specs.Limit.{limit}
use Rattle.values.specs.Values.{value_sum}
use Rattle.player.specs.Outputs.{push_two}
use Rattle.decimation.specs.Decimation.{output_sum}
use Rattle.player.specs.Calls.{silence}

-- the levels of a recording, every word without near
unfoldable pub exact_level : List ℤ → List ℤ → ℕ → List ℤ
exact_level h samples zero = samples
exact_level h samples (suc j) =
    let level = exact_level h samples j in
    tabulate (half_length (length level)) (level_sum h level)

-- a level's value without near, over 2^(14T + 38)
unfoldable pub exact_value : List ℤ → List ℤ → ℕ → ℕ → ℕ → ℤ
exact_value b samples T l P = pos (2 ^ (14 * (T - l) + (4 - l))) *ℤ value_sum b (word_at (exact_level (level_taps b) samples l)) l P

-- a point without near, over 2^(14T + 38) × F
unfoldable pub exact_point : List ℤ → List ℤ → ℕ → Plan → ℤ
exact_point b samples T p =
    let F = (sizes_of b).fade in
    let old = exact_value b samples T p.old p.position in
    let new = exact_value b samples T p.new p.position in
    cond (eqb p.step 0) (pos F *ℤ old) (pos (F - p.step) *ℤ old +ℤ pos p.step *ℤ new)

unfoldable pub point_scale : List ℤ → ℕ → ℕ
point_scale b T = 2 ^ (14 * T + 38) * (sizes_of b).fade

-- an output's exact sum is a whole number over this scale
unfoldable pub exact_scale : List ℤ → ℕ → ℕ
exact_scale b T = 2 ^ (14 * T + 60) * (sizes_of b).fade

-- the exact sum of an output, the limit kept
unfoldable pub exact_output : List ℤ → ℕ → List ℤ → ℤ
exact_output b T points = limit (negsuc 32767 *ℤ pos (exact_scale b T)) (pos 32767 *ℤ pos (exact_scale b T)) (output_sum b points)

-- the exact player's state: control, and 81 exact points
pub record ExactVoice : Type 0 where
  pub control : Control
  pub points : List ℤ

-- it begins as the fresh voice of the card
unfoldable pub exact_fresh : Card → ExactVoice
exact_fresh card = record { control = fresh_control card.top (rate_of card.rate); points = silence }

-- after an output
unfoldable pub exact_next : List ℤ → List ℤ → ℕ → ExactVoice → ExactVoice
exact_next b samples T e =
    let F = (sizes_of b).fade in
    record { control = move_output F e.control; points = push_two (exact_point b samples T) F e.control e.points }

-- after n outputs, and their exact sums
unfoldable pub exact_after : List ℤ → List ℤ → ℕ → ExactVoice → ℕ → ExactVoice
exact_after b samples T e zero = e
exact_after b samples T e (suc n) = exact_next b samples T (exact_after b samples T e n)

unfoldable pub exact_outputs : List ℤ → List ℤ → ℕ → ExactVoice → ℕ → List ℤ
exact_outputs b samples T e n = tabulate n (λ k. exact_output b T (exact_after b samples T e (suc k)).points)
