-- `test_hum::draw` meets its contract. Assumes nothing.
use Rattle.std.proofs.Common.{◌≡◌, ◌+◌, length, sym, refl, ap, ◌∙◌, ap₂, add-one, arith, w16, SFits}
use Rattle.arith.proofs.Bits.{reads}
use Rattle.arith.proofs.Lists.{length-tabulate}
use Rattle.arith.proofs.Parts.{overwrite_end}
use Rattle.arith.proofs.Written.{written, written_none, written_next}
use Rattle.test_hum.specs.Hum.{next_state, sample_of, state_after, hum_samples, drawn, draw_answer}
use Rattle.test_hum.proofs.draw.Invariants.{sample_at}
use Rattle.test_hum.proofs.draw.Goals as goal

pub loop-sample-init : goal.loop-sample-init
unfolding state_after
loop-sample-init c = record { state_kept = refl; samples_written = written_none c.args.samples.now 0 (sample_at c.args.state) }

pub loop-sample-preserved : goal.loop-sample-preserved
unfolding state_after
loop-sample-preserved c =
    let state = c.args.state in
    let l = c.loop-sample in
    let i = l.sample-index in
    let fits : SFits w16 c.sample_of.result = record { sfits = c.sample_of.type_inv } in
    let next : c.next_state-last.result ≡ state_after state (i + 1) = c.next_state-last.ensures ∙ ap next_state l.invariant.state_kept ∙ ap (state_after state) (sym (add-one i)) in
    let sample : c.sample_of.result ≡ sample_at state i = c.sample_of.ensures ∙ ap sample_of (next ∙ ap (state_after state) (add-one i)) in
    let place : i ≡ 0 + i = omega arith in
    let step = written_next c.args.samples.now 0 (sample_at state) i c.sample_of.result (omega arith) sample place l.invariant.samples_written refl in
    record { state_kept = next; samples_written = simp (reads, fits) step }

pub returns : goal.returns
unfolding draw_answer hum_samples
returns c =
    let given = c.args.samples.now in
    let f = sample_at c.args.state in
    let l = c.loop-sample in
    let all : l.sample-index ≡ length given = omega arith in
    let whole : written given 0 f (length given) ≡ hum_samples c.args.state (length given) =
    overwrite_end given (hum_samples c.args.state (length given)) 0 (omega (arith, length-tabulate (length given) f)) in
    ap₂ drawn (l.invariant.state_kept ∙ ap (state_after c.args.state) all) (l.invariant.samples_written ∙ ap (written given 0 f) all ∙ whole)
