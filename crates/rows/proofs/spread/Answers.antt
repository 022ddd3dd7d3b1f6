-- `rows::spread` meets its contract. The loop's invariant: the rows passed are written, and 0 stands behind them. Assumes nothing.
use mathlib.Core.Path.{◌≡◌, ap, ◌∙◌}
use Prim.Native.Nat.{◌+◌, ◌-◌, ◌*◌}
use native.Mathlib.Omega.{arith}
use Rattle.arith.specs.Lists.{at}
use Rattle.arith.proofs.Lists.{at_part}
use Rattle.rows.proofs.ImpulseRows.{phases_none, phases_more, put_lent}
use Rattle.rows.proofs.spread.Goals as goal

pub loop-q-init : goal.loop-q-init
loop-q-init c = phases_none (at c.args.words.now) 4 8 c.args.table.now c.requires.zeros

pub loop-q-preserved : goal.loop-q-preserved
loop-q-preserved c =
    let q = c.loop-q.q in
    let words = c.args.words.now in
    let row = c.copy_from_slice.new.self in
    let many : q * 8 + 4 - q * 8 ≡ 4 = omega arith in
    phases_more c.loop-q.invariant (omega arith)
    (λ k h. ap (λ xs. at xs k) c.copy_from_slice.ensures.after ∙ at_part words (q * 4) (q * 4 + 4 - q * 4) k (omega arith))
    (put_lent c.loop-q.table row (q * 8) (q * 8 + 4 - q * 8) 4 many (omega arith) c.copy_from_slice.ensures.len)
