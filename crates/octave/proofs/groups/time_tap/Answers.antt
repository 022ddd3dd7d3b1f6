-- `octave::groups::time_tap` meets its contract. Assumes nothing.
use Rattle.std.proofs.Common.{◌≡◌, sym, ap, ◌∙◌, pred, length, pos, negsuc, nat_abs, ◌-ℤ◌, arith}
use Rattle.arith.specs.Lists.{at}
use Rattle.arith.specs.Limit.{limit}
use Rattle.arith.proofs.Limit.{limit-same}
use Rattle.arith.proofs.Linear.{linear}
use Rattle.arith.proofs.Lists.{at_outside}
use Rattle.octave.proofs.Octave.{tap_small}
use Rattle.octave.proofs.groups.time_tap.Goals as goal

pub limit16-requires : goal.limit16-requires
limit16-requires c = tap_small c.args.taps.now.words.now c.args.taps.now.bounded c.abs_diff.result (omega arith)

pub returns : goal.returns
returns c =
    let taps = c.args.taps.now.words.now in
    let e : length taps ≡ nat_abs (pos c.args.c -ℤ pos (pred (length taps))) = simp linear (omega arith) in
    sym (limit-same (negsuc 32767) (pos 32767) (pos 0) (simp linear (omega arith)) (simp linear (omega arith)))
    ∙ ap (limit (negsuc 32767) (pos 32767)) (sym (at_outside taps (length taps) (omega arith)) ∙ ap (at taps) e)
