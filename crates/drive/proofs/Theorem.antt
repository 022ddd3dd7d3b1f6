-- Demand 3, whole. Assumes nothing.
use Rattle.player.specs.Calls.{open_answer}
use Rattle.player.proofs.Opened.{open_accepted}
use Rattle.drive.specs.Exact.{exact_fresh}
use Rattle.drive.specs.Demand.{store_of, Demand3}
use Rattle.drive.proofs.Related.{Related, fresh, steps}
use Rattle.drive.proofs.Cuts.{same_cuts}
use Rattle.drive.proofs.Players.{player, exact}
use Rattle.drive.proofs.Steps.{all_paired}

pub demand3 : Demand3
unfolding player exact
demand3 b samples rest card s =
    let v = (open_answer card).voice in
    let start : Related b samples rest card s v (exact_fresh card) = rw (open_accepted card s.opening_accepted) (fresh b samples rest card s) in (
      λ calls. all_paired (steps b samples rest card s) v (exact_fresh card) calls start,
      same_cuts b (store_of b samples card rest) v,
    )
