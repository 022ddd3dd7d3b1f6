-- `dot_products::first_sums` meets its contract. The loop's invariant: the sums at the places passed are written. Assumes nothing.
use Rattle.std.proofs.Common.{rules}
use native.Mathlib.Omega.{arith}
use lib.IntN.{pos}
use lib.ListN.{get_or}
use mir.Syntax.{w32}
use mir.Val.{SFits}
use Rattle.arith.proofs.Bits.{reads}
use Rattle.arith.proofs.Lists.{filled_more}
use Rattle.dot_products.specs.Sums.{sum_here, sum_next}
use Rattle.dot_products.proofs.DotSums.{summable_on, dot_on}
use Rattle.dot_products.proofs.first_sums.Goals as goal

pub dot-requires : goal.dot-requires
dot-requires g c = summable_on _ _ _ _ (c.requires.readable.here c.loop-k.k (omega arith))

pub dot-requires-in-loop-k : goal.dot-requires-in-loop-k
dot-requires-in-loop-k g c = summable_on _ _ _ _ (c.requires.readable.next c.loop-k.k (omega arith))

pub loop-k-preserved : goal.loop-k-preserved
loop-k-preserved g c =
    let a = c.args in
    let k = c.loop-k.k in
    let room = c.requires.room in
    let one_fits : SFits w32 c.dot.result = search rules in
    let two_fits : SFits w32 c.dot-in-loop-k.result = search rules in
    let rows = a.places.now.rows.now in
    let firsts = a.places.now.firsts.now in
    simp (reads, one_fits, two_fits) (
      filled_more (pos 0) (sum_here a.x.now a.table.now g.row.W rows firsts) c.loop-k.one k (omega (arith, room.0)) c.loop-k.invariant.0
          (dot_on a.x.now (get_or firsts k 0) a.table.now (get_or rows k 0) (c.requires.readable.here k (omega arith)) c.dot.ensures),
      filled_more (pos 0) (sum_next a.y.now a.table.now g.row.W rows firsts) c.loop-k.two k (omega (arith, room.1)) c.loop-k.invariant.1
          (dot_on a.y.now (get_or firsts k 0) a.table.now _ (c.requires.readable.next k (omega arith)) c.dot-in-loop-k.ensures),
    )
