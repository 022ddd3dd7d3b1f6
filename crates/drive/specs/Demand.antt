-- Demand 3 (documents 00 and 01), whole: what it is about, and what it says.
use Rattle.std.specs.Prelude.{true, List, ◌++◌, ◌≡◌, ℕ, ◌+◌, ◌*◌, ◌^◌, ◌≤◌, ◌<◌, ℤ, pos, negsuc, nat_abs, ◌-ℤ◌, ◌*ℤ◌, length}
use Rattle.arith.specs.Lists.{at}
use Rattle.arith.specs.Tests.{within}
use Rattle.book.specs.Book.{level_taps}
use Rattle.book.specs.Check.{book_number}
use Rattle.store.specs.Sizes.{samples_in_range}
use Rattle.levels.specs.Build.{built_store}
use Rattle.control.specs.declared.Card.{Card}
use Rattle.refusals.specs.Refusals.{open_number}
use Rattle.player.specs.Calls.{open_answer}
use Rattle.drive.specs.Exact.{exact_scale, exact_fresh}
use Rattle.drive.specs.Lists.{Call, end_voice, handed_out, exact_sums, marks}

-- one accepted book, one recording of 16-bit samples with S in range, and an accepted opening
pub record Setting (b samples : List ℤ) (card : Card) : Type 0 where
  pub book_accepted : book_number b ≡ 0
  pub samples_counted : samples_in_range (pos (length samples)) ≡ true
  pub samples_16_bit : (k : ℕ) → within (negsuc 32767) (pos 32767) (at samples k) ≡ true
  pub opening_accepted : open_number card ≡ 0

-- the store begins with the header and the levels built from book and recording for the card's T; the words after them are anything
abbrev pub store_of : List ℤ → List ℤ → Card → List ℤ → List ℤ
store_of b samples card rest = built_store (level_taps b) samples card.top ++ rest

-- the distance that is allowed, in 1/256 of one 16-bit step
abbrev pub allowed : ℕ → ℕ
allowed T = 126 + 4 * 2 ^ T

-- a sample lies within that of its exact sum, which is a whole number over `scale`
abbrev pub CloseTo : ℕ → ℕ → ℤ → ℤ → Type 0
CloseTo T scale sample sum = 256 * nat_abs (pos scale *ℤ sample -ℤ sum) ≤ allowed T * scale

-- as many samples as exact sums, and each sample close to its sum
abbrev pub Close : ℕ → ℕ → List ℤ → List ℤ → Type 0
Close T scale samples sums = (length samples ≡ length sums) × ((k : ℕ) → k < length samples → CloseTo T scale (at samples k) (at sums k))

-- for every list of calls that starts from the voice that the opening returned: each sample that any play handed out is close to the
-- exact player's sum for it; and two lists hand out the same samples in the same order, and end with the same voice, whenever they have
-- the same accepted calls other than play, in the same order, with as many samples before each of these and as many in all
abbrev pub Demand3 : Type 0
Demand3 =
    (b samples rest : List ℤ) (card : Card)
    → Setting b samples card
    → let store = store_of b samples card rest in
    let T = card.top in
    let v = (open_answer card).voice in
    ((calls : List Call) → Close T (exact_scale b T) (handed_out b store v calls) (exact_sums b samples T (exact_fresh card) calls))
    × ((calls calls' : List Call)
    → marks b store v 0 calls ≡ marks b store v 0 calls'
    → length (handed_out b store v calls) ≡ length (handed_out b store v calls')
    → (handed_out b store v calls ≡ handed_out b store v calls') × (end_voice b store v calls ≡ end_voice b store v calls'))
