-- `octave::next_level` meets its contract: each word is that of the level above. Assumes nothing.
use Rattle.std.proofs.Common.{◌≡◌, sym, ◌∙◌, ◌-◌, length, pos, arith, ext_get_or}
use Rattle.std.proofs.lemmas.Grind.{common_steps, div_ceil_times}
use Rattle.octave.specs.Octave.{next_level}
use Rattle.octave.proofs.Octave.{length-next, at_next}
use Rattle.octave.proofs.next_level.Goals as goal

pub returns : goal.returns
returns c =
    let h = c.args.taps.now.words.now in
    let level = c.args.level.now in
    let above = c.loop-i.above in
    let kept : length above ≡ length c.args.above.now = grind (arith, common_steps) in
    let long : length above ≡ length (next_level h level) = kept ∙ c.requires.room ∙ sym (length-next h level) in
    let ceil = div_ceil_times (length c.args.above.now - c.min-front.result) 64 (omega arith) in
    ext_get_or (pos 0) above (next_level h level) long (λ k l. c.loop-i.invariant k (omega (arith, kept, ceil)) l ∙ sym (at_next h level k (omega (arith, long, length-next h level))))
