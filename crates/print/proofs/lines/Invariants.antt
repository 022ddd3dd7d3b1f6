-- The loop's invariant: the numbers so far are written. Assumes nothing.
use Rattle.std.proofs.Common.{[], ◌∷◌, ◌++◌, take, flat_map}
use Rattle.std.specs.Io.KnownBytes.{Appends}
use Rattle.print.proofs.lines.Given as goal

abbrev pub invariant-loop-x : goal.invariant-loop-x
invariant-loop-x g l = Appends (g.W.Write.contents l.initial.out) (g.W.Write.contents l.out) (flat_map (λ x. g.N.Decimal.text x ++ 10 ∷ []) (take l.x-index l.block))
