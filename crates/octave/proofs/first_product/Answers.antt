-- `octave::first_product` meets its contract: the sum over one tap is its product. Assumes nothing.
use Rattle.std.proofs.Common.{sym, ℕ, ◌^◌, ◌≤◌, nat_abs, ◌*ℤ◌, arith}
use mir.Syntax.{w32, w64}
use mir.Val.{SFits}
use mir.Facts.{sfits_widen}
use Rattle.arith.specs.Lists.{at}
use Rattle.arith.proofs.Bits.{reads}
use Rattle.book.proofs.Around.{around_one, first_fits, word_fits, tap_fits}
use Rattle.octave.proofs.first_product.Goals as goal

pub returns : goal.returns
returns c =
    let words = c.args.plan.now.taps.words.now in
    let level = c.args.plan.now.level.now in
    let centre = c.args.centre in
    let small : (k : ℕ) → nat_abs (at level k) ≤ 2 ^ 29 = λ k. omega (arith, c.args.plan.now.small k) in
    let tap : SFits w32 (at words 0) = tap_fits words c.args.plan.now.taps.bounded 0 c.args.plan.now.taps.some in
    let word : SFits w32 (at level centre) = word_fits (at level centre) (small centre) in
    let product : SFits w64 (at words 0 *ℤ at level centre) = first_fits words c.args.plan.now.taps.bounded level centre small c.args.plan.now.taps.some in
    let wide_tap : SFits w64 (at words 0) = sfits_widen tt tap in
    let wide_word : SFits w64 (at level centre) = sfits_widen tt word in
    simp (reads, tap, word, wide_tap, wide_word, product) (sym (around_one words level centre))
