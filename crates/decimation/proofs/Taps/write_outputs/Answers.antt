-- `decimation::Taps::write_outputs` meets its contract: the outputs that are left are written behind those written by fours. Assumes nothing.
use mathlib.Core.Path.{◌≡◌, sym, ap, ◌∙◌}
use Prim.Native.Nat.{ℕ, ◌+◌, ◌-◌, ◌*◌, ◌/◌}
use native.Mathlib.Nat.{zero-add}
use native.Mathlib.Omega.{arith}
use lib.IntN.{ℤ}
use lib.ListN.{length, take, drop, length-drop}
use lib.Seq.{length-take-le}
use Rattle.arith.specs.Lists.{tabulate, overwrite}
use Rattle.arith.proofs.Lists.{tabulate_ext}
use Rattle.arith.proofs.Written.{written, length_written, written_behind, part_written, all_written}
use Rattle.book.proofs.Accepted.{accepted}
use Rattle.decimation.specs.Inner.{line_output}
use Rattle.decimation.proofs.Lines.{output_is}
use Rattle.decimation.proofs.Taps.write_outputs.Goals as goal

pub returns : goal.returns
returns c =
    let t = c.args.self in
    let out = c.args.out.now in
    let n : ℕ = length out in
    let q : ℕ = 4 * (n / 4) in
    let m : ℕ = n - q in
    let word : ℕ → ℤ = line_output t.taps.now c.args.line.now in
    let xs = c.write_lanes.new.out in
    let fours : xs ≡ written out 0 word q = c.write_lanes.ensures ∙ ap (overwrite out 0) (tabulate_ext q (λ i h. ap word (zero-add i))) in
    let long : length xs ≡ n = ap length fours ∙ length_written out 0 word q (omega arith) in
    let k : ℕ = length xs - q in
    let left : length (take k (drop q xs)) ≡ m = length-take-le k (drop q xs) (omega (arith, length-drop q xs)) ∙ omega arith in
    let all : 1 * (length (take k (drop q xs)) / 1) ≡ m = omega arith in
    let rest = part_written xs q k m (λ i. word (q + i)) c.write_lanes-2.new.out (omega arith) (omega arith)
    (c.write_lanes-2.ensures ∙ ap (λ i. overwrite (take k (drop q xs)) 0 (tabulate i (λ i. word (q + i)))) all) in
    let sum : q + m ≡ n = omega arith in
    written_behind out 0 word q m (omega arith) fours (rest ∙ ap (λ a. overwrite xs a (tabulate m (λ i. word (q + i)))) (sym (zero-add q)))
    ∙ ap (written out 0 word) sum
    ∙ all_written out n word (omega arith)
    ∙ tabulate_ext n (λ i h. output_is t.book.now t.taps.now c.args.line.now (accepted t.book.now t.accepted) t.of_book i)
