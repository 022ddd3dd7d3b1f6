-- `book::differences::check_first_impulse` meets its contract: G_0[0] is the first word of the array. Assumes nothing.
use Rattle.std.proofs.Common.{rules, ◌≡◌, true, false, pos, sym, ap, ◌∙◌, w32, SFits, to_z, of_z}
use mir.ValLaws.{to_z-of_z}
use Rattle.arith.specs.Lists.{at}
use Rattle.arith.specs.Tests.{eq_z}
use Rattle.arith.proofs.Tests.{eq_z_yes, eq_z_no}
use Rattle.refusal.specs.Number.{refuse}
use Rattle.book.specs.Book.{impulse}
use Rattle.book.proofs.Whole.{first_impulse}
use Rattle.book.proofs.differences.check_first_impulse.Goals as goal

pub returns-then-impulses-ne0 : goal.returns-then-impulses-ne0
unfolding refuse
returns-then-impulses-ne0 c =
    let p = c.args.book.now in
    let first = first_impulse p c.impulses.ensures.words in
    let nonzero : eq_z (impulse p.words.now 0 0) (pos 0) ≡ false = eq_z_no _ _ (λ e. c.if-impulses-ne0.true (ap (of_z w32) (first ∙ e))) in
    simp nonzero

pub returns-else-impulses-ne0 : goal.returns-else-impulses-ne0
unfolding refuse
returns-else-impulses-ne0 c =
    let p = c.args.book.now in
    let fits : SFits w32 (at c.impulses.result.now 0) = search rules in
    let first = first_impulse p c.impulses.ensures.words in
    let zero : eq_z (impulse p.words.now 0 0) (pos 0) ≡ true = eq_z_yes (sym first ∙ sym (to_z-of_z w32 _ fits) ∙ ap (to_z w32) c.if-impulses-ne0.false) in
    simp zero
