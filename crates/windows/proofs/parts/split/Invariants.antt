-- `windows::parts::split` meets its contract. The loop's invariant: the words passed are taken apart. Assumes nothing.
use Rattle.windows.specs.Parts.{PartsOf}
use Rattle.windows.proofs.parts.split.Given as goal

abbrev pub invariant-loop-k : goal.invariant-loop-k
invariant-loop-k l = PartsOf l.window l.k l.high l.low
