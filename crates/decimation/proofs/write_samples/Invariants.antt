-- `decimation::write_samples`: the first j outputs are written. Assumes nothing.
use Rattle.std.proofs.Common.{◌≡◌}
use Rattle.arith.specs.Lists.{at}
use Rattle.decimation.specs.Inner.{sample_of, first_outputs}
use Rattle.decimation.proofs.write_samples.Given as goal

abbrev pub invariant-loop-j : goal.invariant-loop-j
invariant-loop-j g l = l.out ≡ first_outputs l.initial.out l.j (λ i. sample_of (at l.sums i))
