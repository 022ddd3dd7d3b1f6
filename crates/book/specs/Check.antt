-- Which books are accepted: numbers 1 to 7 of document 01, in their order.
use Rattle.std.specs.Prelude.{ℕ, suc, pred, ◌+◌, ◌*◌, ◌%◌, Bool, not, ◌&&◌, ◌||◌, leb, List, length, ℤ, pos, negsuc, ◌-ℤ◌, ◌==◌, nat_le, nat_lt, unsigned_abs}
use Rattle.arith.specs.Lists.{at}
use Rattle.arith.specs.Sum.{total}
use Rattle.arith.specs.Tests.{eq_z, within, every}
use Rattle.refusal.specs.Number.{refuse, ◌otherwise◌}
use Rattle.book.specs.Book.{sizes_of, level_taps_at, book_length, impulse, difference, level_taps, decimation_taps}

-- a power of two from 1 to 128
unfoldable pub power_of_two : ℕ → Bool
power_of_two m = m == 1 || m == 2 || m == 4 || m == 8 || m == 16 || m == 32 || m == 64 || m == 128

-- N even, 2..24; M a power of two, 1..128; A and B 0..40; F 1..256
unfoldable pub sizes_in_range : List ℤ → Bool
sizes_in_range b =
    within (pos 2) (pos 24) (at b 0)
    && (sizes_of b).taps % 2 == 0
    && within (pos 1) (pos 128) (at b 1)
    && power_of_two (sizes_of b).phases
    && within (pos 0) (pos 40) (at b 2)
    && within (pos 0) (pos 40) (at b 3)
    && within (pos 1) (pos 256) (at b 4)

-- n words from place a on lie in −32768..32767
unfoldable pub words_in_range : List ℤ → ℕ → ℕ → Bool
words_in_range b a n = every n (λ i. within (negsuc 32767) (pos 32767) (at b (a + i)))

-- impulses and taps lie in that range
unfoldable pub coefficients_in_range : List ℤ → Bool
coefficients_in_range b =
    let s = sizes_of b in
    words_in_range b 5 (s.phases * s.taps) && words_in_range b (level_taps_at s) (s.reach + 1 + (s.decimation + 1))

-- the difference at (q, k) is G_(q+1)[k] − G_q[k]
unfoldable pub differences_right : List ℤ → Bool
differences_right b = every (sizes_of b).phases (λ q. every (sizes_of b).taps (λ k. eq_z (difference b q k) (impulse b (suc q) k -ℤ impulse b q k)))

-- |G_q[0]| + .. + |G_q[N−1]|
unfoldable pub phase_sum : List ℤ → ℕ → ℕ
phase_sum b q = total (sizes_of b).taps (λ k. unsigned_abs (impulse b q k))

-- |h[0]| + 2 × (|h[1]| + .. + |h[A]|), and so for g
unfoldable pub tap_sum : List ℤ → ℕ
tap_sum h = unsigned_abs (at h 0) + 2 * total (pred (length h)) (λ k. unsigned_abs (at h (suc k)))

-- the sums of absolute values
unfoldable pub sums_in_range : List ℤ → Bool
sums_in_range b =
    every (sizes_of b).phases (λ q. leb (phase_sum b q) 65536)
    && nat_le (tap_sum (level_taps b)) 32768
    && nat_le (tap_sum (decimation_taps b)) 32768

-- the number that turns a book away; a book is accepted if there is none
unfoldable pub book_number : List ℤ → ℕ
book_number b =
    refuse 1 (nat_lt (length b) 5)
    otherwise refuse 2 (not (sizes_in_range b))
    otherwise refuse 3 (not (length b == book_length (sizes_of b)))
    otherwise refuse 4 (not (coefficients_in_range b))
    otherwise refuse 5 (not (eq_z (impulse b 0 0) (pos 0)))
    otherwise refuse 6 (not (differences_right b))
    otherwise refuse 7 (not (sums_in_range b))
