-- `store::sizes::store_length` meets its contract. Assumes nothing.
use Rattle.std.proofs.Common.{◌≡◌, ◌+◌, ap, sym, ◌∙◌, arith}
use Rattle.octave.specs.Octave.{half_length}
use Rattle.octave.proofs.Octave.{half_length-≤}
use Rattle.store.specs.Sizes.{levels_below}
use Rattle.store.proofs.Lengths.{level_length-zero, level_length-≤, level_length_more, levels_below-zero, levels_below_more, levels_below-≤, store_length_is}
use Rattle.store.proofs.sizes.store_length.Goals as goal

pub loop-init : goal.loop-init
loop-init c =
    let S = c.args.recorded in record {
      words = omega (arith, levels_below_more S 0, levels_below-zero S, level_length-zero S);
      length = sym (level_length-zero S);
    }

pub overflow_add-words-in-loop : goal.overflow_add-words-in-loop
overflow_add-words-in-loop c =
    let S = c.args.recorded in
    let j = c.loop.counter in
    let below = levels_below-≤ S (j + 1) c.requires.0 in
    omega (arith, half_length-≤ c.loop.length, level_length-≤ S j)

pub loop-preserved : goal.loop-preserved
loop-preserved c =
    let S = c.args.recorded in
    let half = c.half_length-length.ensures ∙ ap half_length c.loop.invariant.length ∙ sym (level_length_more S c.loop.counter) in
    record { words = omega (arith, levels_below_more S (c.loop.counter + 1)); length = half }

pub returns : goal.returns
returns c =
    let a = c.args in
    let e : c.loop.counter ≡ a.top = omega arith in
    c.loop.invariant.words ∙ ap (λ j. 3 + a.top + levels_below a.recorded (j + 1)) e ∙ sym (store_length_is a.recorded a.top)
