-- `marshal::called` meets its contract: the answer of the voice that the words hold. Assumes nothing.
use Rattle.std.proofs.Common.{eqb, length, ap, ◌∙◌}
use Rattle.marshal.specs.Calls.{crossing}
use Rattle.marshal.proofs.Returning.{wrong_length, right_length, returned_accepted, returned_refused}
use Rattle.marshal.proofs.called.Goals as goal

pub returns-in_err-when : goal.returns-in_err-when
unfolding crossing
returns-in_err-when g c answer is =
    let w = wrong_length (eqb (length c.args.voice.now) 95) c.from_residual.result c.in_err-when.field-0.0 c.from_residual.ensures.1 c.in_err-when.ensures in
    simp (w.0, w.1)

pub voice_of-requires : goal.voice_of-requires
voice_of-requires g c = (right_length _ c.in_ok-when.ensures).1

pub returns-in_err-v : goal.returns-in_err-v
unfolding crossing
returns-in_err-v g c answer is =
    let r = c.from_residual-in_err-v in
    simp ((right_length _ c.in_ok-when.ensures).0)
    (returned_refused c.args.voice.now c.in_err-v.field-0.0 _ r.result r.ensures.1 (is _ _ c.in_err-v.ensures ∙ ap answer c.voice_of.ensures))

pub put_voice-requires : goal.put_voice-requires
put_voice-requires g c = (right_length _ c.in_ok-when.ensures).1

pub returns : goal.returns
unfolding crossing
returns g c answer is =
    simp ((right_length _ c.in_ok-when.ensures).0)
    (returned_accepted c.args.voice.now _ _ _ (is _ _ c.in_ok-v.ensures ∙ ap answer c.voice_of.ensures) c.put_voice.ensures)
