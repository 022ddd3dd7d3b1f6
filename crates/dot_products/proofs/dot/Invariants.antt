-- `dot_products::dot` meets its contract. The loop's invariant: the sum is that of the words below k. Assumes nothing.
use mathlib.Core.Path.{◌≡◌}
use Rattle.dot_products.specs.Sums.{dot_sum}
use Rattle.dot_products.proofs.dot.Given as goal

abbrev pub invariant-loop-k : goal.invariant-loop-k
invariant-loop-k g l = l.sum ≡ dot_sum l.words 0 l.coefficients 0 l.k
