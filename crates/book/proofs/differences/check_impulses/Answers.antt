-- `book::differences::check_impulses` meets its contract. Assumes nothing.
use Rattle.std.proofs.Common.{◌≡◌, not, pos, sym, refl, ◌∙◌, arith}
use Rattle.arith.specs.Tests.{eq_z, every}
use Rattle.refusal.specs.Number.{refuse, ◌otherwise◌}
use Rattle.book.specs.Book.{impulse}
use Rattle.book.specs.Check.{differences_right}
use Rattle.book.proofs.Whole.{room}
use Rattle.refusal.proofs.Numbers.{after_none, handed_on}
use Rattle.book.proofs.differences.check_impulses.Goals as goal
use Rattle.book.proofs.differences.check_impulses.Goals.{After-differences_right}

pub differences_right-requires-clause-start_inside : goal.differences_right-requires-clause-start_inside
differences_right-requires-clause-start_inside c = omega (arith, room c.args.book.now)

pub differences_right-requires-clause-start_right : goal.differences_right-requires-clause-start_right
unfolding every
differences_right-requires-clause-start_right c = refl

-- without number 5 it is number 6
sixth : (c : After-differences_right) → let b = c.args.book.now.words.now in
    (refuse 5 (not (eq_z (impulse b 0 0) (pos 0))) otherwise refuse 6 (not (differences_right b))) ≡ refuse 6 (not (differences_right b))
sixth c = after_none _ c.in_ok-check_first_impulse.ensures refl

pub returns-then-differences_right : goal.returns-then-differences_right
unfolding refuse
returns-then-differences_right c = sym (sixth c.before ∙ simp (sym c.differences_right.ensures ∙ c.if-differences_right.true))

pub returns : goal.returns
unfolding refuse
returns c = sym (sixth c.before ∙ simp (sym c.differences_right.ensures ∙ c.if-differences_right.false))

pub returns-in_err-check_first_impulse : goal.returns-in_err-check_first_impulse
returns-in_err-check_first_impulse c = handed_on _ c.from_residual.result c.in_err-check_first_impulse.field-0.0 c.from_residual.ensures.1 c.in_err-check_first_impulse.ensures
