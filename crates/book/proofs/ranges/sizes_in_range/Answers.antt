-- `book::ranges::sizes_in_range` meets its contract: the code makes the definition's tests, in their order. Assumes nothing.
use Rattle.std.proofs.Common.{◌≡◌, ℕ, ◌%◌, Bool, ◌&&◌, eqb, List, ℤ, pos, nat_abs, refl, ap, ◌∙◌}
use Rattle.arith.specs.Lists.{at}
use Rattle.arith.specs.Tests.{within}
use Rattle.book.specs.Book.{sizes_of}
use Rattle.book.specs.Check.{power_of_two, sizes_in_range}
use Rattle.book.proofs.Chained.{made, not_made}
use Rattle.book.proofs.ranges.sizes_in_range.Goals as goal
use Rattle.book.proofs.ranges.sizes_in_range.Goals.{Joined-word_between-3}
use Rattle.book.proofs.ranges.sizes_in_range.Goals.{then-word_between, else-word_between, then-word_size-eq0, else-word_size-eq0, then-word_between-2, else-word_between-2}
use Rattle.book.proofs.ranges.sizes_in_range.Goals.{then-power_of_two, else-power_of_two, then-word_between-3, else-word_between-3}

module _ (b : List ℤ) where
  abbrev even : Bool
  even = eqb (nat_abs (at b 0) % 2) 0

  abbrev small : ℕ → Bool
  small k = within (pos 0) (pos 40) (at b k)

  abbrev power : Bool
  power = power_of_two (nat_abs (at b 1))

  abbrev two : Bool
  two = within (pos 2) (pos 24) (at b 0) && even

  abbrev three : Bool
  three = two && within (pos 1) (pos 128) (at b 1)

  whole : three && power && small 2 && small 3 && within (pos 1) (pos 256) (at b 4) ≡ sizes_in_range b
  unfolding sizes_in_range sizes_of
  whole = refl

-- the tests before the last
five : (c : Joined-word_between-3) → let b = c.args.book.now in c.if-word_between-3.value ≡ three b && power b && small b 2 && small b 3
five c =
    let b = c.args.book.now in
    let e1 : c.if-word_between.value ≡ two b =
    elim c.if-word_between.branch [
      | then-word_between w ↦ made c.word_between.ensures w.if-word_between.true (ap (λ n. eqb (n % 2) 0) w.word_size.ensures.0) w.value-is
      | else-word_between w ↦ not_made (even b) c.word_between.ensures w.if-word_between.false w.value-is
    ] in
    let e2 : c.if-word_size-eq0.value ≡ three b =
    elim c.if-word_size-eq0.branch [
      | then-word_size-eq0 w ↦ made e1 w.if-word_size-eq0.true w.word_between-then-word_size-eq0.ensures w.value-is
      | else-word_size-eq0 w ↦ not_made (within (pos 1) (pos 128) (at b 1)) e1 w.if-word_size-eq0.false w.value-is
    ] in
    let e3 : c.if-word_between-2.value ≡ three b && power b =
    elim c.if-word_between-2.branch [
      | then-word_between-2 w ↦ made e2 w.if-word_between-2.true (w.power_of_two.ensures ∙ ap power_of_two w.word_size-then-word_between-2.ensures.0) w.value-is
      | else-word_between-2 w ↦ not_made (power b) e2 w.if-word_between-2.false w.value-is
    ] in
    let e4 : c.if-power_of_two.value ≡ three b && power b && small b 2 =
    elim c.if-power_of_two.branch [
      | then-power_of_two w ↦ made e3 w.if-power_of_two.true w.word_between-then-power_of_two.ensures w.value-is
      | else-power_of_two w ↦ not_made (small b 2) e3 w.if-power_of_two.false w.value-is
    ] in
    elim c.if-word_between-3.branch [
      | then-word_between-3 w ↦ made e4 w.if-word_between-3.true w.word_between-then-word_between-3.ensures w.value-is
      | else-word_between-3 w ↦ not_made (small b 3) e4 w.if-word_between-3.false w.value-is
    ]

pub returns-then-word_between-4 : goal.returns-then-word_between-4
returns-then-word_between-4 c = made (five c.before.before) c.if-word_between-4.true c.word_between-then-word_between-4.ensures refl ∙ whole c.args.book.now

pub returns-else-word_between-4 : goal.returns-else-word_between-4
returns-else-word_between-4 c = let b = c.args.book.now in not_made (within (pos 1) (pos 256) (at b 4)) (five c.before) c.if-word_between-4.false refl ∙ whole b
