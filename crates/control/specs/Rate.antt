-- Rate and position (document 01). A rate is an f32 by its exact value: `fin s m e` is m × 2^e, and 2^e is the fraction up e / down e.
use Rattle.std.specs.Prelude.{Bool, true, false, not, ◌&&◌, cond, ℕ, ◌+◌, ◌*◌, ◌/◌, ◌^◌, min, leb, ltb, Float}
use Rattle.std.specs.Float.{nan, inf, fin}
use Rattle.std.specs.Float.Ieee.{up, down}

-- r lies from 1/16 up to below 2^(T+1)
unfoldable pub rate_in_range : Float → ℕ → Bool
rate_in_range nan T = false
rate_in_range (inf s) T = false
rate_in_range (fin true m e) T = false
rate_in_range (fin false m e) T = leb (down e) (m * up e * 16) && ltb (m * up e) (2 ^ (T + 1) * down e)

-- R = r × 2^27, whole for every r in range; 0 for what is no rate
unfoldable pub rate_of : Float → ℕ
rate_of nan = 0
rate_of (inf s) = 0
rate_of (fin true m e) = 0
rate_of (fin false m e) = m * up e * 2 ^ 27 / down e

-- the level of a rate's octave, max(0, floor(log2 r)), of R = r × 2^27 below 2^32: request (d)'s "old rule"
unfoldable pub octave_level : ℕ → ℕ
octave_level R = cond (ltb R (2 ^ 28)) 0 (cond (ltb R (2 ^ 29)) 1 (cond (ltb R (2 ^ 30)) 2 (cond (ltb R (2 ^ 31)) 3 4)))

-- the asked level from the current level l: upwards the octave's; downwards it stays l until 16 × R < 15 × 2^(27+l), and is then the octave's
unfoldable pub asked_level : ℕ → ℕ → ℕ
asked_level l R =
    let downwards = ltb (octave_level R) l in
    let stays = not (ltb (16 * R) (15 * 2 ^ (27 + l))) in
    cond (downwards && stays) l (octave_level R)

-- one point advances P by R, stopping at 2^60
unfoldable pub advance : ℕ → ℕ → ℕ
advance P R = min (P + R) (2 ^ 60)
