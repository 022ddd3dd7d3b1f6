-- `player::outputs::history_of` meets its contract: each point fits 32 bits. Assumes nothing.
use mathlib.Core.Path.{◌≡◌, sym, ap, ap₂, ◌∙◌}
use Prim.Native.Nat.{◌+◌}
use native.Mathlib.Omega.{arith}
use lib.IntN.{pos}
use lib.ListN.{set, replicate, length-set, length-replicate}
use mir.Syntax.{w32, w64}
use mir.Val.{SFits}
use Rattle.arith.specs.Lists.{at, part}
use Rattle.arith.proofs.Bits.{reads}
use Rattle.arith.proofs.Lists.{part_length, at_part, paste_more, paste_whole}
use Rattle.arith.proofs.Integers.{abs_fits}
use Rattle.player.proofs.outputs.history_of.Goals as goal

pub loop-k-preserved : goal.loop-k-preserved
loop-k-preserved c =
    let v = c.loop-k.invariant in
    let k = c.loop-k.k in
    let line = c.args.line.now in
    let word = at line (128 + k) in
    let wide : SFits w64 word = abs_fits w64 word (omega (arith, c.requires (128 + k))) in
    let narrow : SFits w32 word = abs_fits w32 word (omega (arith, c.requires (128 + k))) in
    let e : k ≡ 0 + k = omega arith in
    record {
      length = simp length-set v.length;
      points = simp (reads, wide, narrow)
          (ap₂ (λ l i. set l i word) v.points e
          ∙ paste_more (replicate 81 (pos 0)) 0 (part line 128 81) k (pos 0) word (omega (arith, length-replicate 81 (pos 0))) (omega (arith, part_length line 128 81 (omega arith))) (sym (at_part line 128 81 k (omega arith))));
    }

pub returns : goal.returns
returns c =
    let line = c.args.line.now in
    let long = part_length line 128 81 (omega arith) in
    c.loop-k.invariant.points ∙ paste_whole (replicate 81 (pos 0)) (part line 128 81) c.loop-k.k (omega (arith, long)) (long ∙ sym (length-replicate 81 (pos 0)))
