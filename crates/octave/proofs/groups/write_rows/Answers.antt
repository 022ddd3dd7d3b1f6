-- `octave::groups::write_rows` meets its contract. Assumes nothing.
use Rattle.std.proofs.Common.{rules, arith, ◌≡◌, ap, ◌∙◌, ◌+◌, ◌*◌}
use Rattle.arith.specs.Lists.{at}
use Rattle.octave.specs.Inner.{time_tap}
use Rattle.octave.proofs.groups.write_rows.Goals as goal

pub returns : goal.returns
returns c k j l m =
    let taps = c.args.taps.now.words.now in
    let rows = c.write_rows.new.rows in
    let pair = c.write_rows.ensures.pairs k j l m in
    let first : at rows (32 * (0 + k) + 2 * j) ≡ time_tap taps (2 * k) = search rules in
    let second : at rows (32 * (0 + k) + 2 * j + 1) ≡ time_tap taps (2 * k + 1) = search rules in
    (ap (at rows) (omega arith) ∙ first, ap (at rows) (omega arith) ∙ second)
