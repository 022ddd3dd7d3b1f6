-- `decimation::Taps::write_lanes`: the outputs of the turns so far are written. Assumes nothing.
use Rattle.std.proofs.Common.{◌≡◌, ◌+◌, ◌*◌}
use Rattle.decimation.specs.Inner.{line_output, first_outputs}
use Rattle.decimation.proofs.Taps.write_lanes.Given as goal

abbrev pub invariant-loop-turn : goal.invariant-loop-turn
invariant-loop-turn g l = l.out ≡ first_outputs l.initial.out (g.row.LANES * l.turn) (λ i. line_output l.self.taps.now l.line.points.now (l.first + i))
