-- `player::outputs::history_of`: the first k points are read. Assumes nothing.
use Rattle.std.proofs.Common.{◌≡◌, length}
use lib.Seq.{paste}
use Rattle.arith.specs.Lists.{part}
use Rattle.player.proofs.outputs.history_of.Given as goal

abbrev pub invariant-loop-k : goal.invariant-loop-k
invariant-loop-k l = record { length : length l.history ≡ 81; points : l.history ≡ paste l.initial.history 0 (part l.line 128 81) l.k }
