-- `octave::next_level` meets its contract. The loop's invariant: the first words, and those of the blocks below i, are written. Assumes nothing.
use Rattle.std.proofs.Common.{◌≡◌, ℕ, ◌+◌, ◌*◌, ◌<◌, length}
use Rattle.arith.specs.Lists.{at}
use Rattle.octave.specs.Octave.{level_word}
use Rattle.octave.proofs.next_level.Given as goal

abbrev pub invariant-loop-i : goal.invariant-loop-i
invariant-loop-i l = (k : ℕ) → k < l.front + 64 * l.i → k < length l.above → at l.above k ≡ level_word l.fn.taps.words.now l.fn.level k
