-- `book::sums::tap_sum` meets its contract. Assumes nothing.
use Rattle.std.proofs.Common.{rules, ◌≡◌, ℕ, suc, pred, ◌+◌, ◌-◌, ◌*◌, ◌<◌, ◌≤◌, List, length, ℤ, nat_abs, sym, refl, ap, ap₂, ◌∙◌, arith, w32, SFits}
use Rattle.arith.specs.Lists.{at, part}
use Rattle.arith.specs.Sum.{total}
use Rattle.arith.proofs.Bits.{reads}
use Rattle.arith.proofs.Lists.{part_length, at_part}
use Rattle.arith.proofs.Sum.{total_more}
use Rattle.book.specs.Check.{tap_sum}
use Rattle.book.proofs.sums.tap_sum.Goals as goal

side_length : (taps : List ℤ) → 1 ≤ length taps → length (part taps 1 (length taps - 1)) ≡ length taps - 1
side_length taps h = part_length taps 1 (length taps - 1) (omega arith)

at_side : (taps : List ℤ) (k : ℕ) → k < length taps - 1 → at (part taps 1 (length taps - 1)) k ≡ at taps (suc k)
at_side taps k h = let e : 1 + k ≡ suc k = omega arith in at_part taps 1 (length taps - 1) k h ∙ ap (at taps) e

pub loop-tap-init : goal.loop-tap-init
unfolding total
loop-tap-init c = (refl, omega arith)

pub loop-tap-preserved : goal.loop-tap-preserved
loop-tap-preserved c =
    let l = c.loop-tap in
    let taps = c.args.taps.now in
    let size : ℕ → ℕ = λ k. nat_abs (at taps (suc k)) in
    let fits : SFits w32 (at (part taps 1 (length taps - 1)) l.tap-index) = search rules in
    let inside : l.tap-index < length taps - 1 = omega (arith, side_length taps c.requires.0) in
    let word = (simp (reads, fits) at c.unsigned_abs.ensures.value) ∙ ap nat_abs (at_side taps l.tap-index inside) in
    (ap₂ ◌+◌ l.invariant.0 word ∙ sym (total_more l.tap-index size), omega (arith, c.unsigned_abs.ensures.bound))

pub returns : goal.returns
unfolding tap_sum
returns c =
    let l = c.loop-tap in
    let taps = c.args.taps.now in
    let fits : SFits w32 (at taps 0) = search rules in
    let all : l.tap-index ≡ pred (length taps) = omega (arith, side_length taps c.requires.0) in
    let centre = simp (reads, fits) at c.unsigned_abs-2.ensures.value in
    let side = l.invariant.0 ∙ ap (λ n. total n (λ k. nat_abs (at taps (suc k)))) all in
    ap₂ (λ x y. x + 2 * y) centre side
