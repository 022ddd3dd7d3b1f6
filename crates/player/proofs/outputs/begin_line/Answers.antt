-- `player::outputs::begin_line` meets its contract. Assumes nothing.
use mathlib.Core.Path.{◌≡◌, refl, ap, ◌∙◌}
use Prim.Native.Nat.{◌+◌}
use native.Mathlib.Omega.{arith}
use lib.IntN.{pos}
use lib.ListN.{length, set, drop, replicate, length-set, length-replicate}
use mir.Syntax.{w32, w64}
use mir.Val.{SFits}
use mir.Facts.{sfits_widen}
use Rattle.arith.specs.Lists.{at, overwrite}
use Rattle.arith.proofs.Bits.{reads}
use Rattle.arith.proofs.Lists.{paste_more, paste_all}
use Rattle.player.specs.Inner.{line_of}
use Rattle.player.proofs.Filled.{line_history}
use Rattle.player.proofs.outputs.begin_line.Goals as goal

pub loop-k-preserved : goal.loop-k-preserved
loop-k-preserved c =
    let v = c.loop-k.invariant in
    let k = c.loop-k.k in
    let word = at c.args.history.now k in
    let short : SFits w32 word = record { sfits = omega arith } in
    let wide : SFits w64 word = sfits_widen tt short in
    let read : c.from.result ≡ word = simp (reads, short) at c.from.ensures in
    record {
      length = simp length-set v.length;
      points = rw read (simp (reads, wide)
          (ap (λ l. set l (128 + k) word) v.points ∙ paste_more c.args.line.now 128 c.args.history.now k (pos 0) word (omega arith) (omega arith) refl));
    }

pub returns-clause-line : goal.returns-clause-line
unfolding line_of
returns-clause-line c =
    let history = c.args.history.now in
    c.loop-k.invariant.points ∙ paste_all c.args.line.now 128 history c.loop-k.k (omega arith) ∙ ap (λ z. overwrite z 128 history) c.requires

pub returns-clause-kept : goal.returns-clause-kept
unfolding line_of
returns-clause-kept c =
    let history = c.args.history.now in
    let long : length history ≡ 81 = omega arith in
    let e = c.loop-k.invariant.points ∙ paste_all c.args.line.now 128 history c.loop-k.k (omega arith) ∙ ap (λ z. overwrite z 128 history) c.requires in
    (ap (drop 128) e ∙ line_history history long, long)
