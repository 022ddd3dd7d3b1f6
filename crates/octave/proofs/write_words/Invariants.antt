-- `octave::write_words` meets its contract. The loop's invariant: the words below i are written. Assumes nothing.
use Rattle.std.proofs.Common.{◌≡◌, ℕ, ◌+◌, ◌<◌}
use Rattle.arith.specs.Lists.{at}
use Rattle.octave.specs.Octave.{level_word}
use Rattle.octave.proofs.write_words.Given as goal

abbrev pub invariant-loop-i : goal.invariant-loop-i
invariant-loop-i l = (k : ℕ) → k < l.i → at l.words k ≡ level_word l.plan.taps.words.now l.plan.level.now (l.n + k)
