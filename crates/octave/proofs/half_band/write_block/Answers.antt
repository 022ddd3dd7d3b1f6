-- `octave::half_band::write_block` meets its contract: the sums are those of sixty-four words. Assumes nothing.
use Rattle.std.proofs.Common.{◌≡◌, sym, ap, ◌∙◌, ◌+◌, ◌*◌, ◌/◌, ◌%◌, ◌<◌, length, arith}
use Rattle.arith.specs.Lists.{at}
use Rattle.arith.specs.Floor.{near}
use Rattle.pair_sums.specs.Pairs.{shift}
use Rattle.octave.specs.Octave.{level_sum, level_word}
use Rattle.octave.proofs.Sixtyfour.{odd_small, odd_sum}
use Rattle.octave.proofs.half_band.write_block.Goals as goal

pub sum-requires : goal.sum-requires
sum-requires c =
    let p = c.args.plan.now in
    let h = p.taps.words.now in
    let level = p.level.now in
    let n = c.args.n in
    let t = p.odd_taps c.requires.way in
    let count = 2 * ((2 * (length h / 2) + 67) / 4 * 4) in
    odd_small h p.taps.bounded c.requires.narrow t.0 t.1 p.rows.now t.2 level n c.requires.inside.0 p.small count (omega arith) (omega arith) _ (omega arith) _ _ _ p.form c.split.new.self.high c.split.new.self.low c.split.ensures.taken

pub returns : goal.returns
unfolding level_word
returns c i l =
    let p = c.args.plan.now in
    let h = p.taps.words.now in
    let level = p.level.now in
    let n = c.args.n in
    let t = p.odd_taps c.requires.way in
    let count = 2 * ((2 * (length h / 2) + 67) / 4 * 4) in
    let m : i < 64 = omega arith in
    let q = (i % 2 * 32 + i / 2) / 16 in
    let j = (i % 2 * 32 + i / 2) % 16 in
    let lp : q < 4 = omega arith in
    let lj : j < 16 = omega arith in
    let e : 16 * q + j ≡ i % 2 * 32 + i / 2 = omega arith in
    let w : shift 1 q + 2 * j ≡ i = omega arith in
    c.mix_words.ensures i m
    ∙ ap (at c.sum.new.self.sums) (sym e)
    ∙ c.sum.ensures.sums q j lp lj
    ∙ ap (λ z. near z 16384) (odd_sum h p.taps.bounded c.requires.narrow t.0 t.1 p.rows.now t.2 level n c.requires.inside.0 p.small count (omega arith) (omega arith) _ (omega arith) _ _ _ p.form c.split.new.self.high c.split.new.self.low c.split.ensures.taken p.samples q j lp lj ∙ ap (λ z. level_sum h level (n + z)) w)
