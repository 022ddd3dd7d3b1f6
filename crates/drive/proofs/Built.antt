-- The store of an accepted build has the form that demand 3 speaks of: it begins with header and levels, and what lies behind them is as it was.
-- Assumes nothing.
use mathlib.Core.Path.{◌≡◌}
use mathlib.Core.List.{List}
use lib.IntN.{ℤ}
use lib.ListN.{length, drop}
use Rattle.store.specs.Sizes.{store_length}
use Rattle.levels.specs.Build.{build_answer}
use Rattle.levels.proofs.Stores.{accepted_store}
use Rattle.control.specs.declared.Card.{Card}
use Rattle.drive.specs.Demand.{store_of}

pub built_store_lem : (b samples store : List ℤ) (card : Card) → (build_answer b samples card.top store).number ≡ 0
    → (build_answer b samples card.top store).store ≡ store_of b samples card (drop (store_length (length samples) card.top) store)
built_store_lem b samples store card e = accepted_store b samples store card.top e
