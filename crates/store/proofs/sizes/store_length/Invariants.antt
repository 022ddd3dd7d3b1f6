-- `store::sizes::store_length` meets its contract. The loop's invariant: `words` counts the header and levels 0..j, and `length` is that of level j.
-- Assumes nothing.
use Rattle.std.proofs.Common.{◌≡◌, ◌+◌}
use Rattle.store.specs.Sizes.{level_length, levels_below}
use Rattle.store.proofs.sizes.store_length.Given as goal

abbrev pub invariant-loop : goal.invariant-loop
invariant-loop l = record {
  words : l.words ≡ 3 + l.top + levels_below l.recorded (l.counter + 1);
  length : l.length ≡ level_length l.recorded l.counter;
}
