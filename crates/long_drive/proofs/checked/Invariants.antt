-- `long_drive::checked` is safe: the check number stays below 2^31 − 1, so one more step fits. Assumes nothing.
use Rattle.std.proofs.Common.{◌<◌}
use Rattle.long_drive.proofs.checked.Given as goal

abbrev pub invariant-loop-x : goal.invariant-loop-x
invariant-loop-x l = l.sum < 2147483647
