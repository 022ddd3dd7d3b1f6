-- `player::Voice::open` meets its contract: a refusal leaves the zero record, and else the voice rests at the card's rate. Assumes nothing.
use Rattle.std.proofs.Common.{rules, ◌≡◌, sym, ap, ap₂, ◌∙◌}
use Rattle.control.specs.Rate.{octave_level}
use Rattle.control.specs.Moves.{fresh_control}
use Rattle.control.proofs.Rates.{rate_wider}
use Rattle.refusals.specs.Refusals.{open_number}
use Rattle.refusals.proofs.Accepted.{open_top, open_rate}
use Rattle.player.specs.Inner.{resting_voice}
use Rattle.player.specs.Calls.{answer, zero_voice, fresh_voice, open_answer}
use Rattle.player.proofs.Refusing.{none, refused}
use Rattle.player.proofs.Voice.open.Goals as goal
use Rattle.player.proofs.Voice.open.Goals.{In_ok-beside}

-- the card is accepted
accepted : (c : In_ok-beside) → open_number c.args.card ≡ 0
accepted c = sym c.check_open.ensures ∙ none c.in_ok-beside.ensures

pub returns-in_err-beside : goal.returns-in_err-beside
unfolding open_answer zero_voice resting_voice
returns-in_err-beside c =
    refused c.in_err-beside.field-0.0 (c.in_err-beside.ensures ∙ ap₂ answer c.check_open.ensures c.resting.ensures) c.from_residual.result _ c.from_residual.ensures.1

pub scaled_rate-rate-requires : goal.scaled_rate-rate-requires
scaled_rate-rate-requires c = let card = c.args.card in rate_wider _ _ 4 (open_top card (accepted c)) (open_rate card (accepted c))

pub octave_level-requires : goal.octave_level-requires
octave_level-requires c = search rules

pub returns : goal.returns
unfolding open_answer fresh_voice fresh_control resting_voice
returns c =
    let top = c.args.card.top in
    simp (accepted c.before.before.before)
    (ap (answer 0)
    (c.resting-2.ensures
    ∙ ap (resting_voice top c.scaled_rate-rate.result) c.octave_level.ensures
    ∙ ap (λ R. resting_voice top R (octave_level R)) c.scaled_rate-rate.ensures))
