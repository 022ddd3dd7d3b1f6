-- `positions::run_positions`: the positions of the outputs so far are written. Assumes nothing.
use Rattle.std.proofs.Common.{◌≡◌, length}
use Rattle.positions.proofs.Along.{Along}
use Rattle.positions.proofs.run_positions.Given as goal

abbrev pub invariant-loop-i : goal.invariant-loop-i
invariant-loop-i l = record {
  length : length l.positions ≡ 128;
  all : l.made ≡ l.limit;
  along : Along l.fade l.c l.plan l.positions l.i l.position;
}
