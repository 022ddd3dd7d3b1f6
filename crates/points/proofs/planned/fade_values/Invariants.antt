-- `points::planned::fade_values`: the first k means are written. Assumes nothing.
use Rattle.std.proofs.Common.{◌≡◌, ◌-◌}
use Rattle.arith.specs.Lists.{at}
use Rattle.arith.proofs.Written.{written}
use Rattle.points.specs.Inner.{faded}
use Rattle.points.proofs.planned.fade_values.Given as goal

abbrev pub invariant-loop-k : goal.invariant-loop-k
invariant-loop-k l = l.line ≡ written l.initial.line 0 (λ i. faded l.fade (l.last - i) (at l.old i) (at l.new i)) l.k
