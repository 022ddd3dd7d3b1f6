-- A line of points, newest first: what stands at a point's place. Assumes nothing.
use mathlib.Core.Path.{◌≡◌, refl, sym, ap, ◌∙◌}
use mathlib.Core.List.{List}
use Prim.Native.Nat.{ℕ, zero, suc, ◌-◌, ◌≤◌, ◌<◌}
use native.Mathlib.Decide.{ℕ_discrete}
use native.Mathlib.Omega.{arith}
use lib.IntN.{ℤ, pos}
use lib.ListN.{length, set}
use lib.Seq.{get_or-set_same, get_or-set_other}
use Rattle.arith.specs.Lists.{at}
use Rattle.arith.proofs.Written.{length_written, newest, newest_next}

-- point k, of n before place 128
pub newest_at : (xs : List ℤ) (f : ℕ → ℤ) (n k : ℕ) → 128 ≤ length xs → n ≤ 128 → k < n → at (newest xs 128 f n) (127 - k) ≡ f k
newest_at xs f zero k l h m = absurd (omega arith)
newest_at xs f (suc n) k l h m = ap (λ ys. at ys (127 - k)) (sym one_more) ∙ go (λ d. newest_at xs f n k l (omega arith) d) (ℕ_discrete k n)
  where
    one_more : set (newest xs 128 f n) (127 - n) (f n) ≡ newest xs 128 f (suc n)
    one_more = newest_next xs 128 f n (f n) {m = suc n} {place = 127 - n} l (omega arith) refl (omega arith) (omega arith) refl

    long : length (newest xs 128 f n) ≡ length xs
    long = length_written xs (128 - n) (λ j. f (n - suc j)) n (omega arith)

    go : (k < n → at (newest xs 128 f n) (127 - k) ≡ f k) → Dec (k ≡ n) → at (set (newest xs 128 f n) (127 - n) (f n)) (127 - k) ≡ f k
    go earlier (yes e) = rw e (get_or-set_same (newest xs 128 f n) (127 - n) (f n) (pos 0) (omega (arith, long)))
    go earlier (no d) =
        get_or-set_other (newest xs 128 f n) (127 - n) (127 - k) (f n) (pos 0) (λ e. d (omega arith))
        ∙ earlier (omega arith)
