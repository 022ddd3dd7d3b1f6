-- `player::Voice::seek` meets its contract: a refusal leaves the voice, and else only its position changes. Assumes nothing.
use Rattle.std.proofs.Common.{◌≡◌, sym, ap, ◌∙◌}
use Rattle.control.specs.Moves.{sought}
use Rattle.refusals.specs.Refusals.{seek_number, point_bound}
use Rattle.player.specs.Calls.{answer, seek_answer}
use Rattle.player.proofs.Refusing.{none, refused}
use Rattle.player.proofs.Voice.seek.Goals as goal

pub returns-in_err-beside : goal.returns-in_err-beside
unfolding seek_answer
returns-in_err-beside c =
    refused c.in_err-beside.field-0.0 (c.in_err-beside.ensures ∙ ap (λ n. answer n c.args.self) c.check_seek.ensures) c.from_residual.result _ c.from_residual.ensures.1

pub returns : goal.returns
unfolding seek_answer sought
returns c =
    let v = c.args.self in
    let accepted : seek_number v.control point_bound v.history c.args.position ≡ 0 = sym c.check_seek.ensures ∙ none c.in_ok-beside.ensures in
    simp accepted
