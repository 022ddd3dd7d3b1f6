-- Bounds of a book's impulses, in 16 bits: a list of them has a place for each tap of four phases.
use Rattle.std.specs.Prelude.{◌≡◌, ℕ, ◌+◌, ◌*◌, ◌≤◌, cond, List, length, ℤ, pos, ◌+ℤ◌, ◌-ℤ◌, ◌≤ℤ◌, ◌<ℤ◌, int_lt, unsigned_abs}
use Rattle.std.specs.Int.{int_max}
use Rattle.arith.specs.Lists.{at}

-- the size of x is at most 1 above the bound, unless that is the largest number of 16 bits, which bounds nothing
pub record Bounds (bound x : ℤ) : Type 0 where
  pub size : bound <ℤ pos 32767 → pos (unsigned_abs x) ≤ℤ (bound +ℤ pos 1)

-- the difference of two words in range is right, unless the bound is that number
pub record Tested (bound difference next from : ℤ) : Type 0 where
  pub right : bound <ℤ pos 32767 → unsigned_abs next ≤ 32767 → unsigned_abs from ≤ 32767 → difference ≡ next -ℤ from

-- both, of an impulse and its difference to the next phase's
pub record Passed (bound difference next from : ℤ) : Type 0 where
  pub bounded : Bounds bound from
  pub tested : Tested bound difference next from

-- no bound is lower than before
pub record Raised (before after : List ℤ) : Type 0 where
  pub words : length after ≡ length before
  pub rise : (k : ℕ) → at before k ≤ℤ at after k

-- the largest size that the bounds of tap k allow, or 65537 where they do not bound it
unfoldable pub tap_bound : List ℤ → ℕ → ℕ → ℕ
tap_bound bounds taps k =
    let bound = int_max (int_max (at bounds k) (at bounds (taps + k))) (int_max (at bounds (2 * taps + k)) (at bounds (3 * taps + k))) in
    cond (int_lt bound (pos 32767)) (unsigned_abs bound + 1) 65537
