-- `octave::groups::write_block` meets its contract: the sums are those of sixty-four words. Assumes nothing.
use Rattle.std.proofs.Common.{◌≡◌, sym, ap, ◌∙◌, ◌+◌, ◌*◌, ◌/◌, ◌%◌, ◌<◌, length, arith}
use Rattle.arith.specs.Lists.{at}
use Rattle.arith.specs.Floor.{near}
use Rattle.octave.specs.Octave.{level_sum, level_word}
use Rattle.octave.proofs.Sixtyfour.{every_small, every_sum}
use Rattle.octave.proofs.groups.write_block.Goals as goal

pub sum-requires : goal.sum-requires
sum-requires c =
    let p = c.args.plan.now in
    let h = p.taps.words.now in
    let level = p.level.now in
    let n = c.args.n in
    let count = (2 * length h + 133) / 8 * 8 in
    every_small h p.taps.bounded c.requires.narrow p.taps.some p.rows.now (p.every_tap c.requires.way) level n c.requires.inside.0 p.small count (omega arith) (omega arith) _ _ _ p.form c.write.new.self.high c.write.new.self.low c.write.ensures.taken

pub returns : goal.returns
unfolding level_word
returns c i l =
    let p = c.args.plan.now in
    let h = p.taps.words.now in
    let level = p.level.now in
    let n = c.args.n in
    let count = (2 * length h + 133) / 8 * 8 in
    let m : i < 64 = omega (arith, c.copy_from_slice.ensures.len, c.requires.room) in
    let lp : i / 16 < 4 = omega arith in
    let lj : i % 16 < 16 = omega arith in
    let e : 16 * (i / 16) + i % 16 ≡ i = omega arith in
    ap (λ xs. at xs i) c.copy_from_slice.ensures.after
    ∙ ap (at c.sum.new.self.sums) (sym e)
    ∙ c.sum.ensures.sums (i / 16) (i % 16) lp lj
    ∙ ap (λ z. near z 16384) (every_sum h p.taps.bounded c.requires.narrow p.taps.some p.rows.now (p.every_tap c.requires.way) level n c.requires.inside.0 p.small count (omega arith) (omega arith) _ _ _ p.form c.write.new.self.high c.write.new.self.low c.write.ensures.taken p.samples (i / 16) (i % 16) lp lj ∙ ap (λ z. level_sum h level (n + z)) e)
