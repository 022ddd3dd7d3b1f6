-- The loop's invariant: the numbers so far are written. Assumes nothing.
use Rattle.std.proofs.Common.{take, flat_map}
use Rattle.std.specs.Io.KnownBytes.{Appends}
use Rattle.print.specs.Texts.{next_of}
use Rattle.print.proofs.line.Given as goal

abbrev pub invariant-loop-x : goal.invariant-loop-x
invariant-loop-x g l = Appends (g.W.Write.contents l.initial.out) (g.W.Write.contents l.out) (flat_map (next_of g.N.Decimal.text) (take l.x-index l.xs))
