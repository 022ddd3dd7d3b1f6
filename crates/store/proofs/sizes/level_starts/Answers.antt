-- `store::sizes::level_starts` meets its contract. Assumes nothing.
use Rattle.std.proofs.Common.{◌+◌, ◌<◌, ap, ap₂, sym, refl, ◌∙◌, arith}
use Rattle.std.proofs.Math.ListN.{length-set}
use Rattle.arith.proofs.Lists.{filled_more}
use Rattle.octave.specs.Octave.{half_length}
use Rattle.store.specs.Sizes.{level_start}
use Rattle.store.proofs.Lengths.{level_length-zero, level_length-≤, level_length_more, levels_below-zero, levels_below-≤, level_start_is, level_start_more}
use Rattle.store.proofs.sizes.level_starts.Goals as goal

pub loop-place-init : goal.loop-place-init
loop-place-init c =
    let S = c.args.recorded in record {
      place = refl;
      start = omega (arith, level_start_is S c.args.top 0, levels_below-zero S);
      length = sym (level_length-zero S);
      written = λ i h. absurd (omega arith);
    }

pub overflow_add-start-in-loop-place : goal.overflow_add-start-in-loop-place
overflow_add-start-in-loop-place c =
    let S = c.args.recorded in
    let j = c.loop-place.place-index in
    let below = levels_below-≤ S j c.requires.0 in
    let few : j < 6 = omega arith in
    omega (arith, level_start_is S c.args.top j, level_length-≤ S j)

pub loop-place-preserved : goal.loop-place-preserved
loop-place-preserved c =
    let S = c.args.recorded in
    let T = c.args.top in
    let j = c.loop-place.place-index in
    let i = c.loop-place.invariant in record {
      place = simp length-set i.place;
      start = ap₂ ◌+◌ i.start i.length ∙ sym (level_start_more S T j);
      length = c.half_length-length.ensures ∙ ap half_length i.length ∙ sym (level_length_more S j);
      written = filled_more 0 (level_start S T) c.loop-place.place-items j (omega arith) i.written i.start;
    }
