-- `octave::half_band::mix_words` meets its contract. The loop's invariant: the first 2j words are written. Assumes nothing.
use Rattle.std.proofs.Common.{◌≡◌, ℕ, ◌+◌, ◌*◌, ◌/◌, ◌%◌, ◌<◌}
use Rattle.arith.specs.Lists.{at}
use Rattle.octave.proofs.half_band.mix_words.Given as goal

abbrev pub invariant-loop-j : goal.invariant-loop-j
invariant-loop-j l = (i : ℕ) → i < 2 * l.j → at l.words i ≡ at l.sums (i % 2 * 32 + i / 2)
