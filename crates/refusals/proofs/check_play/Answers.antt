-- `refusals::check_play` meets its contract: the book's numbers, the store's, then those of the state; an accepted book has its five sizes, and an
-- accepted store its header. Assumes nothing.
use Rattle.std.proofs.Common.{refl, sym, ap₂, ◌∙◌, arith}
use Rattle.refusal.proofs.Numbers.{after_none, handed_on}
use Rattle.book.specs.Book.{sizes_of}
use Rattle.book.proofs.Accepted.{accepted, sizes_room}
use Rattle.store.proofs.Accepted.{accepted as store_accepted}
use Rattle.refusals.specs.Refusals.{play_state_number, play_number, point_bound}
use Rattle.refusals.proofs.check_play.Goals as goal

pub returns-in_err-check : goal.returns-in_err-check
unfolding play_number
returns-in_err-check c = handed_on _ c.from_residual.result c.in_err-check.field-0.0 c.from_residual.ensures.1 c.in_err-check.ensures

pub returns-in_err-check-2 : goal.returns-in_err-check-2
unfolding play_number
returns-in_err-check-2 c =
    let r = c.from_residual-in_err-check-2 in
    handed_on _ r.result c.in_err-check-2.field-0.0 r.ensures.1 c.in_err-check-2.ensures ∙ sym (after_none _ c.in_ok-check.ensures refl)

pub read_sizes-s-requires : goal.read_sizes-s-requires
read_sizes-s-requires c =
    let b = c.args.book.now in
    omega (arith, (sizes_room b (accepted b (sym c.in_ok-check.ensures)) (sizes_of b) refl).0)

pub top_level-top-requires : goal.top_level-top-requires
top_level-top-requires c = (store_accepted _ (sym c.in_ok-check-2.ensures)).header

pub returns : goal.returns
unfolding play_number
returns c =
    let a = c.args in
    c.check_play_state.ensures ∙ ap₂ (λ z T. play_state_number z.fade T a.c point_bound a.history a.outputs) c.read_sizes-s.ensures c.top_level-top.ensures
    ∙ sym (after_none _ c.in_ok-check.ensures refl ∙ after_none _ c.in_ok-check-2.ensures refl)
