-- `player::Voice::play` meets its contract: a refusal leaves all as it came, and else `fill` writes all. Assumes nothing.
use Rattle.std.proofs.Common.{sym, ap, ◌∙◌}
use Rattle.player.specs.Calls.{answer, play_answer}
use Rattle.player.proofs.Refusing.{none, play_refused}
use Rattle.player.proofs.Voice.play.Goals as goal

pub returns-in_err-beside : goal.returns-in_err-beside
unfolding play_answer
returns-in_err-beside c =
    play_refused c.in_err-beside.field-0.0 (c.in_err-beside.ensures ∙ ap (λ n. answer n c.args.self) c.check_play.ensures) c.from_residual.result _ _ _ _ c.from_residual.ensures.1

pub fill-requires : goal.fill-requires
fill-requires c = sym c.check_play.ensures ∙ none c.in_ok-beside.ensures
