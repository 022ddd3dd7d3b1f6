-- `levels::check_build` meets its contract: the book's number, then 8, then 9. Assumes nothing.
use Rattle.std.proofs.Common.{◌≡◌, ◌&&◌, not, ltb, true, pos, refl, sym, ap, ◌∙◌}
use Rattle.arith.proofs.Tests.{&&-left, &&-right}
use Rattle.refusal.specs.Number.{refuse}
use Rattle.refusal.proofs.Numbers.{after_none, handed_on, not_refused}
use Rattle.store.specs.Sizes.{samples_in_range, top_in_range}
use Rattle.store.proofs.Ranges.{samples_high, top_high}
use Rattle.levels.specs.Build.{build_number}
use Rattle.levels.proofs.check_build.Goals as goal
use Rattle.levels.proofs.check_build.Goals.{In_ok-when}

-- 8 is not given
sized : (c : In_ok-when) → samples_in_range (pos c.args.recorded) && top_in_range (pos c.args.top) ≡ true
sized c = not_refused 7 _ (sym (c.in_ok-when.ensures ∙ ap (λ b. refuse 8 (not b)) c.in_range.ensures))

pub returns-in_err-check : goal.returns-in_err-check
unfolding build_number
returns-in_err-check c = handed_on _ c.from_residual.result c.in_err-check.field-0.0 c.from_residual.ensures.1 c.in_err-check.ensures

pub returns-in_err-when : goal.returns-in_err-when
unfolding build_number
returns-in_err-when c =
    let r = c.from_residual-in_err-when in
    handed_on _ r.result c.in_err-when.field-0.0 r.ensures.1 (c.in_err-when.ensures ∙ ap (λ b. refuse 8 (not b)) c.in_range.ensures) ∙ sym (after_none _ c.in_ok-check.ensures refl)

pub store_length-requires : goal.store_length-requires
store_length-requires c =
    let a = c.args in
    (samples_high (pos a.recorded) (&&-left _ (top_in_range (pos a.top)) (sized c)), top_high (pos a.top) (&&-right (samples_in_range (pos a.recorded)) _ (sized c)))

pub returns : goal.returns
unfolding build_number
returns c =
    c.when-2.ensures ∙ ap (λ n. refuse 9 (ltb c.args.words n)) c.store_length.ensures
    ∙ sym (after_none _ c.in_ok-check.ensures refl ∙ after_none _ (c.in_ok-when.ensures ∙ ap (λ b. refuse 8 (not b)) c.in_range.ensures) refl)
