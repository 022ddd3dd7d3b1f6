-- `book::sums::sums_in_range` meets its contract. Assumes nothing.
use Rattle.std.proofs.Common.{leb, refl, ap, ◌∙◌, sym}
use Rattle.arith.specs.Tests.{every}
use Rattle.book.specs.Book.{level_taps, decimation_taps}
use Rattle.book.specs.Check.{phase_sum, tap_sum, sums_in_range}
use Rattle.book.proofs.Chained.{made, not_made, &&-assoc}
use Rattle.book.proofs.sums.sums_in_range.Goals as goal

pub returns-then-phases_in_range : goal.returns-then-phases_in_range
unfolding sums_in_range
returns-then-phases_in_range c =
    let p = c.args.book.now in
    let b = p.words.now in
    let phases = c.phases_in_range.ensures ∙ ap (λ s. every s.phases (λ q. leb (phase_sum b q) 65536)) p.read in
    made phases c.if-phases_in_range.true c.tap_sums_within.ensures refl ∙ sym (&&-assoc _ (leb (tap_sum (level_taps b)) 32768) (leb (tap_sum (decimation_taps b)) 32768))

pub returns-else-phases_in_range : goal.returns-else-phases_in_range
unfolding sums_in_range
returns-else-phases_in_range c =
    let p = c.args.book.now in
    let b = p.words.now in
    let phases = c.phases_in_range.ensures ∙ ap (λ s. every s.phases (λ q. leb (phase_sum b q) 65536)) p.read in
    not_made _ phases c.if-phases_in_range.false refl ∙ sym (&&-assoc _ (leb (tap_sum (level_taps b)) 32768) (leb (tap_sum (decimation_taps b)) 32768))
