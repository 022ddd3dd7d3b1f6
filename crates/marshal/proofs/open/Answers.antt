-- `marshal::open` meets its contract: the words of the answer's voice. Assumes nothing.
use Rattle.std.proofs.Common.{eqb, length, ap, ◌∙◌}
use Rattle.refusal.specs.Number.{number}
use Rattle.marshal.specs.Words.{words_of}
use Rattle.marshal.specs.Calls.{crossed, open_crossing}
use Rattle.marshal.proofs.Returning.{wrong_length, right_length}
use Rattle.marshal.proofs.open.Goals as goal

pub returns-in_err-when : goal.returns-in_err-when
unfolding open_crossing
returns-in_err-when c =
    let w = wrong_length (eqb (length c.args.voice.now) 95) c.from_residual.result c.in_err-when.field-0.0 c.from_residual.ensures.1 c.in_err-when.ensures in
    simp (w.0, w.1)

pub put_voice-requires : goal.put_voice-requires
put_voice-requires c = (right_length _ c.in_ok-when.ensures).1

pub put_voice-requires-in-Err : goal.put_voice-requires-in-Err
put_voice-requires-in-Err c = (right_length _ c.in_ok-when.ensures).1

pub returns-in-Ok : goal.returns-in-Ok
unfolding open_crossing
returns-in-Ok c =
    simp ((right_length _ c.in_ok-when.ensures).0) (ap (crossed 0) c.put_voice.ensures ∙ ap (λ a. crossed a.number (words_of a.voice)) c.in-Ok.ensures)

pub returns-in-Err : goal.returns-in-Err
unfolding open_crossing
returns-in-Err c =
    simp ((right_length _ c.in_ok-when.ensures).0)
    (ap (crossed (number c.in-Err.refused.refusal)) c.put_voice-in-Err.ensures ∙ ap (λ a. crossed a.number (words_of a.voice)) c.in-Err.ensures)
