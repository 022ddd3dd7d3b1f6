-- The test hum (document 02, (b)): the samples of a linear congruential generator.
use Rattle.std.specs.Prelude.{ℕ, zero, suc, ◌+◌, ◌*◌, ◌/◌, ◌%◌, ◌^◌, List, ℤ, pos, ◌-ℤ◌}
use Rattle.arith.specs.Lists.{tabulate}

-- the state is 32 bits and the next is 1664525 × state + 1013904223, modulo 2^32
unfoldable pub next_state : ℕ → ℕ
next_state state = (1664525 * state + 1013904223) % 2 ^ 32

-- each sample is the new state divided by 65536, rounded down, minus 32768
unfoldable pub sample_of : ℕ → ℤ
sample_of state = pos (state / 65536) -ℤ pos 32768

-- the state after n samples
unfoldable pub state_after : ℕ → ℕ → ℕ
state_after state zero = state
state_after state (suc n) = next_state (state_after state n)

-- the first n samples from a state
unfoldable pub hum_samples : ℕ → ℕ → List ℤ
hum_samples state n = tabulate n (λ k. sample_of (state_after state (suc k)))

-- what drawing samples leaves: the last state, and the samples
pub record Drawn : Type 0 where
  pub state : ℕ
  pub samples : List ℤ

abbrev pub drawn : ℕ → List ℤ → Drawn
drawn state samples = record { state = state; samples = samples }

-- n samples drawn from a state
unfoldable pub draw_answer : ℕ → ℕ → Drawn
draw_answer state n = drawn (state_after state n) (hum_samples state n)
