-- `windows::source::Source::values_along` meets its contract. The loop's invariant: the values of the positions passed are written, the newest in front.
-- Assumes nothing.
use mathlib.Core.Path.{◌≡◌}
use Prim.Native.Nat.{◌+◌, ◌-◌, ◌≤◌}
use lib.ListN.{length, get_or, drop}
use Rattle.arith.proofs.Written.{newest}
use Rattle.values.specs.Values.{level_value}
use Rattle.windows.proofs.source.Source.values_along.Given as goal

abbrev pub invariant-loop-words : goal.invariant-loop-words
invariant-loop-words l = record {
  left : length l.rest ≤ length l.positions;
  end_is : l.end + (length l.positions - length l.rest) ≡ 128;
  rest_is : l.rest ≡ drop (length l.positions - length l.rest) l.positions;
  line_is : l.line ≡ newest l.initial.line 128 (λ k. level_value l.self.book.now l.words l.level (get_or l.positions k 0)) (length l.positions - length l.rest);
}

abbrev pub decreases-loop-words : goal.decreases-loop-words
decreases-loop-words l = length l.rest
