-- `pair_sums::parts::split` meets its contract. Assumes nothing.
use Rattle.std.proofs.Common.{rules, arith, length-set}
use Rattle.pair_sums.proofs.Pairs.{split_more}
use Rattle.pair_sums.proofs.parts.split.Goals as goal

pub loop-i-preserved : goal.loop-i-preserved
loop-i-preserved g c = (
  simp length-set c.loop-i.invariant.0,
  split_more (goal.F-post g c.args.part) c.args.words.now c.loop-i.out c.loop-i.i _ _ (omega arith) c.loop-i.invariant.0 c.loop-i.invariant.1 (search rules) (search rules),
)
