-- `book::places::Parts::of` meets its contract: it makes the tests of numbers 1 to 3 in their order. Assumes nothing.
use Rattle.std.proofs.Common.{◌≡◌, ◌*◌, ◌≤◌, Bool, true, false, eqb, List, length, ℤ, ap, ◌∙◌, sym, arith, le-ltb, lt-ltb, eq-eqb, ne_eqb}
use Rattle.arith.proofs.Tests.{test_fails, test_holds}
use Rattle.book.specs.declared.Sizes.{Sizes}
use Rattle.refusal.specs.Number.{refuse, ◌otherwise◌}
use Rattle.book.specs.Book.{sizes_of, book_length}
use Rattle.book.specs.Check.{sizes_in_range}
use Rattle.book.proofs.Bounds.{length_is}
use Rattle.book.proofs.Whole.{read_small}
use Rattle.book.proofs.places.Parts.of.Goals as goal

pub returns-then-words-lt5-clause-number : goal.returns-then-words-lt5-clause-number
unfolding refuse ◌otherwise◌
returns-then-words-lt5-clause-number c = simp (lt-ltb _ _ c.if-words-lt5.true)

pub returns-then-not-sizes_in_range-clause-number : goal.returns-then-not-sizes_in_range-clause-number
unfolding refuse ◌otherwise◌
returns-then-not-sizes_in_range-clause-number c = simp (le-ltb _ _ c.if-words-lt5.false, test_fails c.sizes_in_range.ensures c.if-not-sizes_in_range.true)

-- what is computed of the sizes is small
small : (b : List ℤ) {s : Sizes} {t : Bool} → s ≡ sizes_of b → t ≡ sizes_in_range b → t ≡ true → (s.phases * s.taps ≤ 3072) × (s.reach ≤ 40) × (s.decimation ≤ 40)
small b {s} read e h = read_small b s read (test_holds e h)

pub overflow_mul-array : goal.overflow_mul-array
overflow_mul-array c = omega (arith, small c.args.words.now c.read_sizes-sizes.ensures c.sizes_in_range.ensures c.if-not-sizes_in_range.false)

pub overflow_add-array : goal.overflow_add-array
overflow_add-array c = omega (arith, small c.args.words.now c.read_sizes-sizes.ensures c.sizes_in_range.ensures c.if-not-sizes_in_range.false)

pub overflow_add-array-2 : goal.overflow_add-array-2
overflow_add-array-2 c = omega (arith, small c.args.words.now c.read_sizes-sizes.ensures c.sizes_in_range.ensures c.if-not-sizes_in_range.false)

pub overflow_add-sizes : goal.overflow_add-sizes
overflow_add-sizes c = omega (arith, small c.args.words.now c.read_sizes-sizes.ensures c.sizes_in_range.ensures c.if-not-sizes_in_range.false)

pub overflow_add-array-3 : goal.overflow_add-array-3
overflow_add-array-3 c = omega (arith, small c.args.words.now c.read_sizes-sizes.ensures c.sizes_in_range.ensures c.if-not-sizes_in_range.false)

pub overflow_add-sizes-2 : goal.overflow_add-sizes-2
overflow_add-sizes-2 c = omega (arith, small c.args.words.now c.read_sizes-sizes.ensures c.sizes_in_range.ensures c.if-not-sizes_in_range.false)

pub overflow_add-array-4 : goal.overflow_add-array-4
overflow_add-array-4 c = omega (arith, small c.args.words.now c.read_sizes-sizes.ensures c.sizes_in_range.ensures c.if-not-sizes_in_range.false)

pub returns-then-words-array-clause-number : goal.returns-then-words-array-clause-number
unfolding refuse ◌otherwise◌
returns-then-words-array-clause-number c =
    let b = c.args.words.now in
    let s = c.read_sizes-sizes in
    let wrong : eqb (length b) (book_length (sizes_of b)) ≡ false = ne_eqb _ _ (λ e. c.if-words-array.true (e ∙ ap book_length (sym s.ensures) ∙ length_is s.result)) in
    simp (le-ltb _ _ c.if-words-lt5.false, test_holds c.sizes_in_range.ensures c.if-not-sizes_in_range.false, wrong)

pub invariant_of-result : goal.invariant_of-result
invariant_of-result c =
    let s = c.read_sizes-sizes in
    record { read = s.ensures; in_range = test_holds c.sizes_in_range.ensures c.if-not-sizes_in_range.false; long = c.if-words-array.false ∙ sym (length_is s.result) ∙ ap book_length s.ensures }

pub returns-clause-number : goal.returns-clause-number
unfolding refuse ◌otherwise◌
returns-clause-number c =
    let s = c.read_sizes-sizes in
    let long = c.if-words-array.false ∙ sym (length_is s.result) ∙ ap book_length s.ensures in
    simp (le-ltb _ _ c.if-words-lt5.false, test_holds c.sizes_in_range.ensures c.if-not-sizes_in_range.false, eq-eqb _ _ long)
