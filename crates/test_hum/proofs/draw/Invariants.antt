-- The loop's invariant: `last` is the state after as many samples as were drawn, and these stand in the slice. Assumes nothing.
use Rattle.std.proofs.Common.{◌≡◌, ℕ, suc, ℤ}
use Rattle.arith.proofs.Written.{written}
use Rattle.test_hum.specs.Hum.{sample_of, state_after}
use Rattle.test_hum.proofs.draw.Given as goal

-- sample k from a state
abbrev pub sample_at : ℕ → ℕ → ℤ
sample_at state k = sample_of (state_after state (suc k))

abbrev pub invariant-loop-sample : goal.invariant-loop-sample
invariant-loop-sample l = record {
  state_kept : l.last ≡ state_after l.state l.sample-index;
  samples_written : l.samples ≡ written l.initial.samples 0 (sample_at l.state) l.sample-index;
}
