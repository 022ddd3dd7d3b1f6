-- `windows::staging::limited_words` meets its contract. The loop's invariant: the words passed are written. Assumes nothing.
use mathlib.Core.Path.{◌∙◌}
use Rattle.std.proofs.Common.{rules}
use native.Mathlib.Omega.{arith}
use lib.IntN.{pos, neg_ℤ, ◌-ℤ◌, +ℤ_idl}
use mir.Syntax.{w32}
use mir.Val.{SFits}
use Rattle.arith.proofs.Bits.{reads}
use Rattle.arith.proofs.Lists.{filled_more}
use Rattle.windows.proofs.Staged.{bound_fits, bound_high, bound-above, negated_fits, clamped, limited_is, word_back}
use Rattle.windows.proofs.staging.limited_words.Goals as goal

pub loop-k-preserved : goal.loop-k-preserved
loop-k-preserved c =
    let a = c.args in
    let k = c.loop-k.k in
    let b = c.level_bound-bound.result in
    let b_fits : SFits w32 b = bound_fits a.level c.requires b c.level_bound-bound.ensures in
    let x_fits : SFits w32 c.word_before.result = search rules in
    let fits : SFits w32 c.clamp.result = search rules in
    let low_fits : SFits w32 (neg_ℤ b) = negated_fits b (bound_high a.level c.requires b c.level_bound-bound.ensures) in
    let value = simp (reads, b_fits, x_fits, +ℤ_idl, low_fits) at c.clamp.ensures.value in
    let word = limited_is a.level c.requires b c.level_bound-bound.ensures a.words.now (pos a.end -ℤ pos k) c.word_before.result c.word_before.ensures
    (value ∙ clamped (neg_ℤ b) b c.word_before.result (bound-above a.level c.requires b c.level_bound-bound.ensures)) in
    simp (reads, fits) (filled_more (pos 0) (word_back a.words.now a.level a.end) c.loop-k.window k (omega arith) c.loop-k.invariant word)
