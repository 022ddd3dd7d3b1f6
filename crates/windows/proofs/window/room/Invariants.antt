-- `windows::window::room` meets its contract. The loop's invariant: one position at least is left, and no more than there are; one lies in no distance
-- from itself. Assumes nothing.
use Prim.Native.Nat.{◌≤◌}
use lib.ListN.{length}
use Rattle.windows.proofs.window.room.Given as goal

abbrev pub invariant-loop-count : goal.invariant-loop-count
invariant-loop-count l = (1 ≤ l.count) × (l.count ≤ length l.positions)

abbrev pub decreases-loop-count : goal.decreases-loop-count
decreases-loop-count l = l.count
