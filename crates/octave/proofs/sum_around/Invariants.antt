-- `octave::sum_around` meets its contract. The loop's invariant: the sum is that over the taps below k. Assumes nothing.
use Rattle.std.proofs.Common.{◌≡◌}
use Rattle.book.proofs.Around.{around}
use Rattle.octave.proofs.sum_around.Given as goal

abbrev pub invariant-loop-k : goal.invariant-loop-k
invariant-loop-k l = l.sum ≡ around l.words l.level l.centre l.k
