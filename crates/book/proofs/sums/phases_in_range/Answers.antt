-- `book::sums::phases_in_range` meets its contract. Assumes nothing.
use Rattle.std.proofs.Common.{rules, ◌≡◌, ◌+◌, ◌*◌, sym, refl, ap, ◌∙◌, ap₂, arith, w32, SFits, le-leb}
use borrow.Author.Tests.{lt-leb}
use Rattle.arith.specs.Lists.{at}
use Rattle.arith.specs.Sum.{total}
use Rattle.arith.specs.Tests.{every}
use Rattle.arith.proofs.Bits.{reads}
use Rattle.arith.proofs.Sum.{total_more}
use Rattle.arith.proofs.Tests.{every_more, every_not}
use Rattle.book.specs.Check.{phase_sum}
use Rattle.book.proofs.Bounds.{row_below}
use Rattle.book.proofs.Whole.{room, impulse_small, phase_total}
use Rattle.book.proofs.sums.phases_in_range.Invariants.{size, phase_right}
use Rattle.book.proofs.sums.phases_in_range.Goals as goal

pub phases-init : goal.phases-init
unfolding every
phases-init c = (refl, refl)

pub loop-k-init : goal.loop-k-init
unfolding total
loop-k-init c = (refl, omega arith)

pub overflow_mul-q : goal.overflow_mul-q
overflow_mul-q c = omega (arith, c.impulses-impulses.ensures.room, row_below c.phases-test.true c.loop-k-test.true)

pub overflow_add-q : goal.overflow_add-q
overflow_add-q c = omega (arith, c.impulses-impulses.ensures.room, row_below c.phases-test.true c.loop-k-test.true)

pub offset_bounds-impulses-q : goal.offset_bounds-impulses-q
offset_bounds-impulses-q c = omega (arith, c.impulses-impulses.ensures.room, row_below c.phases-test.true c.loop-k-test.true)

pub bounds-impulses-q : goal.bounds-impulses-q
bounds-impulses-q c = omega (arith, c.impulses-impulses.ensures.room, row_below c.phases-test.true c.loop-k-test.true)

pub overflow_add-sum : goal.overflow_add-sum
overflow_add-sum c =
    let p = c.args.book.now in
    let xs = c.impulses-impulses.result.now in
    let i = c.phases.q * p.sizes.taps + c.loop-k.k in
    let fits : SFits w32 (at xs i) = search rules in
    let word = simp (reads, fits) at c.unsigned_abs-sum.ensures.value in
    omega (arith, word, room p, impulse_small p c.requires xs c.impulses-impulses.ensures.words i (row_below c.phases-test.true c.loop-k-test.true))

pub loop-k-preserved : goal.loop-k-preserved
loop-k-preserved c =
    let l = c.loop-k in
    let p = c.args.book.now in
    let xs = c.impulses-impulses.result.now in
    let i = c.phases.q * p.sizes.taps + l.k in
    let fits : SFits w32 (at xs i) = search rules in
    let word = simp (reads, fits) at c.unsigned_abs-sum.ensures.value in
    let small = impulse_small p c.requires xs c.impulses-impulses.ensures.words i (row_below c.phases-test.true c.loop-k-test.true) in
    (ap₂ ◌+◌ l.invariant.0 word ∙ sym (total_more l.k (size xs p.sizes.taps c.phases.q)), omega (arith, word, small))

pub phases-preserved : goal.phases-preserved
phases-preserved c =
    let p = c.args.book.now in
    let whole : c.loop-k.k ≡ p.sizes.taps = omega arith in
    let sum : c.loop-k.sum ≡ phase_sum p.words.now c.phases.q = c.loop-k.invariant.0 ∙ ap (λ n. total n (size c.impulses-impulses.result.now p.sizes.taps c.phases.q)) whole ∙ phase_total p c.requires _ c.impulses-impulses.ensures.words c.phases.q c.phases-test.true in
    (c.phases.invariant.0, every_more c.phases.q (phase_right p.words.now) c.phases.invariant.1 (le-leb _ _ (rw sum at c.if-sum-gt-PHASE_SUM.false)))

pub returns-then-sum-gt-PHASE_SUM : goal.returns-then-sum-gt-PHASE_SUM
returns-then-sum-gt-PHASE_SUM c =
    let p = c.args.book.now in
    let whole : c.loop-k.k ≡ p.sizes.taps = omega arith in
    let sum : c.loop-k.sum ≡ phase_sum p.words.now c.phases.q = c.loop-k.invariant.0 ∙ ap (λ n. total n (size c.impulses-impulses.result.now p.sizes.taps c.phases.q)) whole ∙ phase_total p c.requires _ c.impulses-impulses.ensures.words c.phases.q c.phases-test.true in
    sym (every_not p.sizes.phases (phase_right p.words.now) c.phases.q c.phases-test.true (lt-leb _ _ (rw sum at c.if-sum-gt-PHASE_SUM.true)))
