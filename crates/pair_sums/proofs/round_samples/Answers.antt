-- `pair_sums::round_samples` meets its contract. Assumes nothing.
use Rattle.std.proofs.Common.{◌≡◌, ap, ◌∙◌, pos, ◌*ℤ◌, arith, le_refl, length-set, get_or-set_other}
use mir.Syntax.{w32}
use mir.Val.{SFits}
use Rattle.arith.specs.Floor.{near}
use Rattle.arith.specs.Lists.{at}
use Rattle.arith.proofs.Bits.{reads}
use Rattle.arith.proofs.Lists.{filled_more}
use Rattle.pair_sums.proofs.Pairs.{sample_near}
use Rattle.pair_sums.proofs.round_samples.Goals as goal

pub loop-t-preserved : goal.loop-t-preserved
loop-t-preserved c =
    let t = c.loop-t.t in
    let given = c.args.sums.now in
    let f : SFits w32 (at c.loop-t.sums t) = record { sfits = omega arith } in
    let r : SFits w32 c.rounded.result = record { sfits = c.rounded.type_inv } in
    let e : c.rounded.result ≡ near (pos 256 *ℤ at given t) 16384 =
    (simp (reads, f) at c.rounded.ensures) ∙ sample_near (at c.loop-t.sums t) ∙ ap (λ z. near (pos 256 *ℤ z) 16384) (c.loop-t.invariant.2 t (le_refl t)) in (
      simp length-set c.loop-t.invariant.0,
      simp (reads, r) (filled_more (pos 0) (λ i. near (pos 256 *ℤ at given i) 16384) c.loop-t.sums t (omega arith) c.loop-t.invariant.1 e),
      simp (reads, r) (λ i l. get_or-set_other c.loop-t.sums t i c.rounded.result (pos 0) (λ e. omega (arith, e)) ∙ c.loop-t.invariant.2 i (omega arith)),
    )
