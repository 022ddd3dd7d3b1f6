-- `octave::half_band::write_rows` meets its contract. Assumes nothing.
use Rattle.std.proofs.Common.{rules, arith, ◌≡◌, ap, ◌∙◌, ℕ, ◌+◌, ◌*◌}
use mir.Syntax.{w16, w32}
use mir.Val.{SFits}
use Rattle.arith.specs.Lists.{at}
use Rattle.arith.proofs.Bits.{reads}
use Rattle.book.proofs.Around.{tap_fits}
use Rattle.octave.specs.Inner.{odd_tap}
use Rattle.octave.proofs.Octave.{tap_small}
use Rattle.octave.proofs.half_band.write_rows.Goals as goal

pub limit16-centre-requires : goal.limit16-centre-requires
limit16-centre-requires c = tap_small c.args.taps.now.words.now c.args.taps.now.bounded 0 (omega arith)

pub returns : goal.returns
returns c =
    let taps = c.args.taps.now.words.now in
    let rows = c.write_rows.new.rows in
    let tap : SFits w32 (at taps 0) = tap_fits taps c.args.taps.now.bounded 0 (omega arith) in
    let centre : SFits w16 c.limit16-centre.result = record { sfits = c.limit16-centre.type_inv } in
    let pairs = simp (reads, centre) at c.write_row.ensures.pairs in
    let same = c.write_rows.ensures.front_same in
    let e : (j : ℕ) → 2 * j ≡ 32 * 0 + 2 * j = λ j. omega arith in
    let f : (j : ℕ) → 2 * j + 1 ≡ 32 * 0 + 2 * j + 1 = λ j. omega arith in
    let before = c.write_row.new.rows in (
      λ j l. (
        same (2 * j) (omega arith) ∙ ap (at before) (e j) ∙ (pairs j l).0 ∙ (simp (reads, tap) at c.limit16-centre.ensures),
        same (2 * j + 1) (omega arith) ∙ ap (at before) (f j) ∙ (pairs j l).1,
      ),
      λ k j l m.
          let pair = c.write_rows.ensures.pairs k j l m in
          let first : at rows (32 * (1 + k) + 2 * j) ≡ odd_tap taps (2 * k) = search rules in
          let second : at rows (32 * (1 + k) + 2 * j + 1) ≡ odd_tap taps (2 * k + 1) = search rules in
          (ap (at rows) (omega arith) ∙ first, ap (at rows) (omega arith) ∙ second),
    )
