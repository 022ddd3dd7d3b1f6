-- `levels::writer::write_levels` meets its contract. The loop's invariant: level j begins at `start` and has `length` words, and the store is as it
-- was, with levels 0..j written at its front. Assumes nothing.
use Rattle.std.proofs.Common.{◌≡◌, length}
use Rattle.arith.specs.Lists.{overwrite}
use Rattle.store.specs.Sizes.{level_length, levels_below}
use Rattle.levels.specs.Levels.{levels_of}
use Rattle.levels.proofs.writer.write_levels.Given as goal

abbrev pub invariant-loop-level : goal.invariant-loop-level
invariant-loop-level l =
    (l.start ≡ levels_below (length l.samples) l._level) × (l.length ≡ level_length (length l.samples) l._level) × (l.store ≡ overwrite l.initial.store 0 (levels_of l.fn.taps.words.now l.samples l._level))
