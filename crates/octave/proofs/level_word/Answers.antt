-- `octave::level_word` meets its contract: rounding the sum gives a word that fits. Assumes nothing.
use Rattle.std.proofs.Common.{◌≡◌, ap, ◌∙◌, ◌*◌, ◌^◌, ◌≤◌, List, length, ℤ, nat_abs, arith, le_refl}
use mir.Syntax.{w32, w64}
use mir.Val.{SFits}
use mir.Facts.{sfits_widen}
use Rattle.arith.proofs.Bits.{reads}
use Rattle.arith.specs.Floor.{near}
use Rattle.arith.proofs.Integers.{abs_fits}
use Rattle.octave.specs.Octave.{level_sum, level_word}
use Rattle.book.proofs.Around.{around_bound}
use Rattle.octave.proofs.Octave.{word_bound}
use Rattle.octave.proofs.level_word.Goals as goal
use Rattle.octave.proofs.level_word.Goals.{After-near, After-sum_around}

sum_fits : (c : After-sum_around) → SFits w64 c.sum_around.result
sum_fits c = record { sfits = c.sum_around.type_inv }

sum_small : (c : After-sum_around) → nat_abs c.sum_around.result ≤ 32768 * 2 ^ 26
sum_small c =
    let words = c.args.plan.now.taps.words.now in
    rw c.sum_around.ensures (around_bound words c.args.plan.now.level.now (2 * c.args.n) c.args.plan.now.taps.bounded (2 ^ 26) c.args.plan.now.small (length words) (le_refl (length words)))

pub near-requires-clause-far_from_ends : goal.near-requires-clause-far_from_ends
near-requires-clause-far_from_ends c = simp (reads, sum_fits c) (omega (arith, sum_small c))

module _ (c : After-near) where
  abbrev words : List ℤ
  words = c.args.plan.now.taps.words.now

  near_is : c.near.result ≡ level_word words c.args.plan.now.level.now c.args.n
  unfolding level_word level_sum
  near_is = (simp (reads, sum_fits c.before) at c.near.ensures) ∙ ap (λ z. near z 16384) c.sum_around.ensures

  near_fits : SFits w32 c.near.result
  near_fits =
      rw near_is (abs_fits w32 (level_word words c.args.plan.now.level.now c.args.n) (omega (arith, word_bound words c.args.plan.now.level.now c.args.plan.now.taps.bounded (2 ^ 26) c.args.plan.now.small c.args.n)))

  near_wide : SFits w64 c.near.result
  near_wide = sfits_widen tt near_fits

pub overflow_cast-result : goal.overflow_cast-result
overflow_cast-result c = simp (reads, near_wide c) (near_fits c)

pub returns : goal.returns
returns c = simp (reads, near_wide c, near_fits c) (near_is c)
