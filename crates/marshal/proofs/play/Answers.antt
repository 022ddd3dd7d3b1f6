-- `marshal::play` meets its contract: the answer of the voice that the words hold. Assumes nothing.
use Rattle.std.proofs.Common.{refl, ap, ◌∙◌}
use borrow.Author.Tests.{eq-eqb, ne_eqb}
use Rattle.player.specs.Calls.{play_answer}
use Rattle.marshal.specs.Calls.{play_crossing}
use Rattle.marshal.proofs.Returning.{play_accepted, play_refused}
use Rattle.marshal.proofs.play.Goals as goal

pub returns-then-voice-ne95 : goal.returns-then-voice-ne95
unfolding play_crossing
returns-then-voice-ne95 c = simp (ne_eqb _ _ c.if-voice-ne95.true) refl

pub voice_of-requires : goal.voice_of-requires
voice_of-requires c = c.if-voice-ne95.false

pub returns-in_err-played : goal.returns-in_err-played
unfolding play_crossing
returns-in_err-played c =
    let a = c.args in
    let r = c.from_residual in
    simp (eq-eqb _ _ c.if-voice-ne95.false)
    (play_refused a.voice.now _ c.in_err-played.field-0.0 _ r.result r.ensures.1 (c.in_err-played.ensures ∙ ap (λ v. play_answer a.book.now a.store.now v a.out.now) c.voice_of.ensures))

pub put_voice-requires : goal.put_voice-requires
put_voice-requires c = c.if-voice-ne95.false

pub returns : goal.returns
unfolding play_crossing
returns c =
    let a = c.args in
    simp (eq-eqb _ _ c.if-voice-ne95.false)
    (play_accepted a.voice.now _ _ _ _ _ (c.in_ok-played.ensures ∙ ap (λ v. play_answer a.book.now a.store.now v a.out.now) c.voice_of.ensures) c.put_voice.ensures)
