-- `player::outputs::begin_line`: the first k points are written. Assumes nothing.
use Rattle.std.proofs.Common.{◌≡◌, length}
use lib.Seq.{paste}
use Rattle.player.proofs.outputs.begin_line.Given as goal

abbrev pub invariant-loop-k : goal.invariant-loop-k
invariant-loop-k l = record { length : length l.line ≡ 209; points : l.line ≡ paste l.initial.line 128 l.history l.k }
