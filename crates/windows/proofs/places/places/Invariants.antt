-- `windows::places::places` meets its contract. The loop's invariant: the places of the positions passed are written. Assumes nothing.
use Prim.Native.Nat.{◌-◌, ◌*◌, ◌^◌}
use lib.ListN.{get_or}
use Rattle.windows.specs.Places.{PlacesOf}
use Rattle.windows.proofs.places.places.Given as goal

abbrev pub invariant-loop-k : goal.invariant-loop-k
invariant-loop-k l = PlacesOf l.phases l.width l.spread l.k (λ j. (get_or l.positions j 0 - l.start) * 2 ^ l.up) l.rows l.firsts l.offsets
