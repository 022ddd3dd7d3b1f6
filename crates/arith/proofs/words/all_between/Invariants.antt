-- The loop's invariant: `all` says whether the words passed lie in range. Assumes nothing.
use mathlib.Core.Path.{◌≡◌}
use Rattle.arith.specs.Lists.{at}
use Rattle.arith.specs.Tests.{within, every}
use Rattle.arith.proofs.words.all_between.Given as goal

abbrev pub invariant-loop-x : goal.invariant-loop-x
invariant-loop-x l = l.all ≡ every l.x-index (λ i. within l.lo l.hi (at l.words i))
