-- `decimation::Taps::write_lanes` meets its contract. Assumes nothing.
use mathlib.Core.Path.{◌≡◌, sym, ap, ◌∙◌}
use Prim.Native.Nat.{ℕ, ◌+◌, ◌-◌, ◌*◌, ◌<◌}
use native.Mathlib.Nat.{mul-zero, mul-suc, zero-add}
use native.Mathlib.Numerals.{add-one}
use native.Mathlib.Omega.{arith}
use lib.IntN.{ℤ}
use lib.ListN.{length, take, drop, length-drop}
use lib.Seq.{length-take-le}
use Rattle.arith.specs.Lists.{at, tabulate, overwrite}
use Rattle.arith.proofs.Lists.{tabulate_ext}
use Rattle.arith.proofs.Written.{written, written_none, written_behind, part_written}
use Rattle.decimation.specs.Inner.{sample_of, line_output}
use Rattle.decimation.proofs.Lanes.{turn_fits}
use Rattle.decimation.proofs.Lines.{fits, centred_small, sample_is}
use Rattle.decimation.proofs.Taps.write_lanes.Goals as goal

pub loop-turn-init : goal.loop-turn-init
loop-turn-init g c =
    let word : ℕ → ℤ = λ i. line_output c.args.self.taps.now c.args.line.points.now (c.args.first + i) in
    written_none c.args.out.now 0 word ∙ ap (written c.args.out.now 0 word) (sym (mul-zero g.row.LANES))

pub overflow_sub-newest-in-loop-turn : goal.overflow_sub-newest-in-loop-turn
overflow_sub-newest-in-loop-turn g c =
    let f = fits c.args.self c.args.line.points.now c.args.line.small in
    omega (arith, f.some, turn_fits g.row.LANES (length c.args.out.now) c.loop-turn.turn c.loop-turn-test.true)

pub sums-sums-requires : goal.sums-sums-requires
sums-sums-requires g c =
    let f = fits c.args.self c.args.line.points.now c.args.line.small in
    let room = turn_fits g.row.LANES (length c.args.out.now) c.loop-turn.turn c.loop-turn-test.true in
    (omega arith, (omega (arith, f.some, room), omega (arith, f.few, room)))

pub write_samples-requires : goal.write_samples-requires
write_samples-requires g c =
    let f = fits c.args.self c.args.line.points.now c.args.line.small in
    let L = g.row.LANES in
    let p : ℕ = L * c.loop-turn.turn in
    let room = turn_fits L (length c.args.out.now) c.loop-turn.turn c.loop-turn-test.true in (
      omega arith,
      (
        omega (arith, length-take-le (p + L - p) (drop p c.loop-turn.out) (omega (arith, room, length-drop p c.loop-turn.out))),
        λ j h. rw (c.sums-sums.ensures j h) (centred_small f _),
      ),
    )

pub loop-turn-preserved : goal.loop-turn-preserved
loop-turn-preserved g c =
    let f = fits c.args.self c.args.line.points.now c.args.line.small in
    let L = g.row.LANES in
    let t = c.loop-turn.turn in
    let p : ℕ = L * t in
    let out = c.loop-turn.out in
    let room = turn_fits L (length c.args.out.now) t c.loop-turn-test.true in
    let word : ℕ → ℤ = λ i. line_output c.args.self.taps.now c.args.line.points.now (c.args.first + i) in
    let made : (j : ℕ) → j < L → sample_of (at c.sums-sums.result j) ≡ word (p + j) =
    λ j h. sample_is f (c.args.first + (p + j)) _ (c.sums-sums.ensures j h) (omega (arith, f.some, room)) in
    let here = part_written out p (p + L - p) L (λ j. word (p + j)) c.write_samples.new.out (omega (arith, room)) (omega arith)
    (c.write_samples.ensures ∙ ap (overwrite (take (p + L - p) (drop p out)) 0) (tabulate_ext L made)) in
    let next : p + L ≡ L * (t + 1) = sym (ap (λ m. L * m) (add-one t) ∙ mul-suc L t) in
    written_behind c.args.out.now 0 word p L (omega (arith, room)) c.loop-turn.invariant (here ∙ ap (λ a. overwrite out a (tabulate L (λ j. word (p + j)))) (sym (zero-add p)))
    ∙ ap (written c.args.out.now 0 word) next
