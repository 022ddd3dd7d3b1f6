-- A slightly different recording (document 02, (h)): what it is about, and what it says.
use Rattle.std.specs.Prelude.{List, ◌≡◌, ℕ, ◌+◌, ◌*◌, ◌^◌, ◌≤◌, ◌<◌, ℤ, nat_abs, ◌-ℤ◌, length}
use Rattle.arith.specs.Lists.{at}
use Rattle.control.specs.declared.Card.{Card}
use Rattle.player.specs.Calls.{open_answer}
use Rattle.drive.specs.Lists.{Call, handed_out}
use Rattle.drive.specs.Demand.{Setting, store_of}

-- two recordings of equal length whose samples differ by at most D at each place
pub record Differ (D : ℕ) (old new : List ℤ) : Type 0 where
  pub equal_length : length old ≡ length new
  pub at_each_place : (k : ℕ) → nat_abs (at old k -ℤ at new k) ≤ D

-- 8 × 2^T × D + (126 + 4 × 2^T)/128, in 1/128 of one 16-bit step
abbrev pub movement : ℕ → ℕ → ℕ
movement T D = 128 * (8 * 2 ^ T * D) + (126 + 4 * 2 ^ T)

-- as many samples, and no two that stand at the same place differ by more
abbrev pub Moved : ℕ → ℕ → List ℤ → List ℤ → Type 0
Moved T D xs ys = (length xs ≡ length ys) × ((k : ℕ) → k < length xs → 128 * nat_abs (at xs k -ℤ at ys k) ≤ movement T D)

-- the same book, opening card and list of calls, refused ones among them, each recording with its own store
abbrev pub Sensitivity : Type 0
Sensitivity =
    (b old new rest rest' : List ℤ) (card : Card) (D : ℕ)
    → Setting b old card
    → Setting b new card
    → Differ D old new
    → let v = (open_answer card).voice in
    (calls : List Call) → Moved card.top D (handed_out b (store_of b old card rest) v calls) (handed_out b (store_of b new card rest') v calls)
