-- When a call says no (document 01; 18 and 19: document 02, (a)): the numbers of the player's calls, each call's in its order.
use Rattle.std.specs.Prelude.{Bool, not, ◌&&◌, ◌||◌, List, ℕ, ◌+◌, ◌^◌, ltb, leb, eqb, ℤ, pos, nat_abs}
use Rattle.arith.specs.Lists.{at}
use Rattle.arith.specs.Tests.{every}
use Rattle.refusal.specs.Number.{refuse, ◌otherwise◌}
use Rattle.book.specs.Book.{sizes_of}
use Rattle.book.specs.Check.{book_number}
use Rattle.store.specs.Sizes.{top_in_range}
use Rattle.store.specs.Store.{top_level}
use Rattle.store.specs.Check.{store_number}
use Rattle.control.specs.declared.Card.{Card}
use Rattle.control.specs.declared.Control.{Control}
use Rattle.control.specs.declared.Order.{Order}
use Rattle.control.specs.declared.Order.TheVariants.{Jump, Glide}
use Rattle.control.specs.Rate.{rate_in_range}

-- ---- from the input

-- 11: c is 1..65536, and the output slice of play 0..1048576
unfoldable pub glide_count_wrong : ℕ → Bool
glide_count_wrong count = eqb count 0 || ltb 65536 count

unfoldable pub output_count_wrong : ℕ → Bool
output_count_wrong n = ltb 1048576 n

-- 12: seek beyond 2^60
unfoldable pub position_wrong : ℕ → Bool
position_wrong P = ltb (2 ^ 60) P

-- ---- from the state

-- 13: T above 4, or a level above T
unfoldable pub levels_wrong : Control → Bool
levels_wrong c = ltb 4 c.top || ltb c.top c.fade.from || ltb c.top c.fade.to

-- 19: the voice's T differs from the store's
unfoldable pub top_wrong : ℕ → Control → Bool
top_wrong T c = not (eqb c.top T)

-- 13, then 19, of a voice beside a store whose T is given
unfoldable pub levels_number : ℕ → Control → ℕ
levels_number T c = refuse 13 (levels_wrong c) otherwise refuse 19 (top_wrong T c)

-- 14: i = 0 with two levels unequal, i above 0 with them equal, or i at least F
unfoldable pub fade_wrong : ℕ → Control → Bool
fade_wrong F c =
    let equal = eqb c.fade.from c.fade.to in
    let resting = eqb c.fade.step 0 in
    resting && not equal || not resting && equal || leb F c.fade.step

-- a rate outside 2^23..2^(28+T) − 1
unfoldable pub rate_wrong : ℕ → ℕ → Bool
rate_wrong T R = ltb R (2 ^ 23) || leb (2 ^ (28 + T)) R

-- 15: R, R0 or R1 outside that, c above 65536, or j not below c; with c = 0 only R is looked at
unfoldable pub glide_wrong : Control → Bool
glide_wrong c =
    let g = c.glide in
    rate_wrong c.top c.rate
    || not (eqb g.count 0)
    && (rate_wrong c.top g.start || rate_wrong c.top g.target || ltb 65536 g.count || leb g.count g.done)

-- 17: a history word beyond ±bound, of the first 81
unfoldable pub history_wrong : ℕ → List ℤ → Bool
history_wrong bound history = not (every 81 (λ k. leb (nat_abs (at history k)) bound))

-- 17 of a voice: a history word lies within ±2^29
abbrev pub point_bound : ℕ
point_bound = 2 ^ 29

-- 15, 16 and 17, of a state whose points lie within ±bound
unfoldable pub late_number : Control → ℕ → List ℤ → ℕ
late_number c bound history =
    refuse 15 (glide_wrong c)
    otherwise refuse 16 (position_wrong c.position)
    otherwise refuse 17 (history_wrong bound history)

-- ---- each call

-- opening: 8 for T, 10
unfoldable pub open_number : Card → ℕ
open_number card = refuse 8 (not (top_in_range (pos card.top))) otherwise refuse 10 (not (rate_in_range card.rate card.top))

-- the input numbers of an order: 10, and 11 for a glide
unfoldable pub order_input_number : ℕ → Order → ℕ
order_input_number T (Jump r) = refuse 10 (not (rate_in_range r T))
order_input_number T (Glide r count) = refuse 10 (not (rate_in_range r T)) otherwise refuse 11 (glide_count_wrong count)

-- order: 13, 15, 16, 17, then its input numbers
unfoldable pub order_number : Control → ℕ → List ℤ → Order → ℕ
order_number c bound history o = refuse 13 (levels_wrong c) otherwise late_number c bound history otherwise order_input_number c.top o

-- seek: 13, 15, 16, 17, then 12
unfoldable pub seek_number : Control → ℕ → List ℤ → ℕ → ℕ
seek_number c bound history P = refuse 13 (levels_wrong c) otherwise late_number c bound history otherwise refuse 12 (position_wrong P)

-- play, past the numbers of book and store, whose F and T are given: 13, 19, 14 to 17, then 11
unfoldable pub play_state_number : ℕ → ℕ → Control → ℕ → List ℤ → ℕ → ℕ
play_state_number F T c bound history n =
    levels_number T c
    otherwise refuse 14 (fade_wrong F c)
    otherwise late_number c bound history
    otherwise refuse 11 (output_count_wrong n)

-- play of n outputs: 1 to 7 of the book, 9, 8, 9 and 18 of the store, and then those
unfoldable pub play_number : List ℤ → List ℤ → Control → ℕ → List ℤ → ℕ → ℕ
play_number b store c bound history n = book_number b otherwise store_number store otherwise play_state_number (sizes_of b).fade (top_level store) c bound history n
