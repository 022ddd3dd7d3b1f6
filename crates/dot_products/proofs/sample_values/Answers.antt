-- `dot_products::sample_values` meets its contract. The loop's invariant: the values of the places passed are written, the newest in front. Assumes nothing.
use mathlib.Core.Path.{◌≡◌, refl, ap, ap₂, ◌∙◌}
use Rattle.std.proofs.Common.{rules}
use Prim.Native.Nat.{◌+◌}
use native.Mathlib.Omega.{arith}
use lib.IntN.{pos, ◌*ℤ◌}
use lib.ListN.{length, get_or}
use mir.Syntax.{w32, w64}
use mir.Val.{SFits}
use Rattle.arith.proofs.Bits.{reads}
use Rattle.arith.proofs.Written.{newest, newest_none, newest_next}
use Rattle.dot_products.specs.Sums.{sum_here, sum_next, mixed_value}
use Rattle.dot_products.proofs.DotSums.{summable_on, dot_on, newest_all}
use Rattle.dot_products.proofs.sample_values.Invariants.{value_at}
use Rattle.dot_products.proofs.sample_values.Goals as goal

pub loop-k-init : goal.loop-k-init
loop-k-init g c =
    let a = c.args in
    let p = a.places.now in
    newest_none a.line.now (length p.rows.now) (value_at a.x.now a.y.now a.table.now g.row.W p.rows.now p.firsts.now p.offsets.now)

pub dot-base-requires : goal.dot-base-requires
dot-base-requires g c = summable_on _ _ _ _ (c.requires.readable.here c.loop-k.k (omega arith))

pub dot-next-requires : goal.dot-next-requires
dot-next-requires g c = summable_on _ _ _ _ (c.requires.readable.next c.loop-k.k (omega arith))

pub loop-k-preserved : goal.loop-k-preserved
loop-k-preserved g c =
    let a = c.args in
    let k = c.loop-k.k in
    let p = a.places.now in
    let rows = p.rows.now in
    let firsts = p.firsts.now in
    let values = value_at a.x.now a.y.now a.table.now g.row.W rows firsts p.offsets.now in
    let base_fits : SFits w32 c.dot-base.result = search rules in
    let next_fits : SFits w32 c.dot-next.result = search rules in
    let fits : SFits w64 c.sample_value-value.result = search rules in
    let base : c.dot-base.result ≡ sum_here a.x.now a.table.now g.row.W rows firsts k =
    dot_on a.x.now (get_or firsts k 0) a.table.now (get_or rows k 0) (c.requires.readable.here k (omega arith)) c.dot-base.ensures in
    let next : c.dot-next.result ≡ sum_next a.y.now a.table.now g.row.W rows firsts k =
    dot_on a.y.now (get_or firsts k 0) a.table.now (get_or rows k 0 + g.row.W) (c.requires.readable.next k (omega arith)) c.dot-next.ensures in
    let value : c.sample_value-value.result ≡ values k =
    (simp (reads, base_fits, next_fits) at c.sample_value-value.ensures)
    ∙ ap₂ (λ x y. mixed_value (x *ℤ pos 256) (y *ℤ pos 256) (get_or p.offsets.now k 0)) base next in
    simp (reads, fits)
    (newest_next a.line.now (length rows) values k c.sample_value-value.result (omega (arith, c.requires.room)) (omega arith) value refl (omega arith) c.loop-k.invariant)

pub returns : goal.returns
returns g c =
    let a = c.args in
    let p = a.places.now in
    let values = value_at a.x.now a.y.now a.table.now g.row.W p.rows.now p.firsts.now p.offsets.now in
    let all : c.loop-k.k ≡ length p.rows.now = omega arith in
    c.loop-k.invariant ∙ ap (newest a.line.now (length p.rows.now) values) all ∙ newest_all a.line.now (length p.rows.now) values c.requires.room
