-- `book::check` meets its contract: it makes the tests of numbers 1 to 7 in their order. Assumes nothing.
use Rattle.std.proofs.Common.{◌≡◌, ℕ, true, false, not, eqb, ltb, List, length, ℤ, pos, sym, refl, ap, ◌∙◌}
use Rattle.arith.specs.Tests.{eq_z}
use Rattle.arith.proofs.Tests.{test_fails, test_holds}
use Rattle.refusal.specs.Number.{refuse, ◌otherwise◌}
use Rattle.refusal.proofs.Numbers.{handed_on, after_none, otherwise_assoc, otherwise_none}
use Rattle.book.specs.Book.{sizes_of, book_length, impulse}
use Rattle.book.specs.Check.{sizes_in_range, coefficients_in_range, differences_right, sums_in_range, book_number}
use Rattle.book.proofs.check.Goals as goal

module _ (b : List ℤ) where
  -- the numbers 1 to 3, 5 and 6, as the functions give them
  abbrev heads : ℕ
  heads = refuse 1 (ltb (length b) 5) otherwise refuse 2 (not (sizes_in_range b)) otherwise refuse 3 (not (eqb (length b) (book_length (sizes_of b))))

  abbrev fifth : ℕ
  fifth = refuse 5 (not (eq_z (impulse b 0 0) (pos 0)))

  abbrev sixth : ℕ
  sixth = refuse 6 (not (differences_right b))

  abbrev rest : ℕ
  rest = refuse 4 (not (coefficients_in_range b)) otherwise (fifth otherwise (sixth otherwise refuse 7 (not (sums_in_range b))))

  parted : book_number b ≡ heads otherwise rest
  unfolding book_number
  parted =
      let first = refuse 1 (ltb (length b) 5) in
      let second = refuse 2 (not (sizes_in_range b)) in
      let third = refuse 3 (not (eqb (length b) (book_length (sizes_of b)))) in
      sym (otherwise_assoc first (second otherwise third) rest ∙ ap (λ n. first otherwise n) (otherwise_assoc second third rest))

  module _ (none : 0 ≡ heads) where
    from_4 : book_number b ≡ rest
    from_4 = parted ∙ after_none rest none refl

    fourth : coefficients_in_range b ≡ false → 4 ≡ book_number b
    unfolding refuse ◌otherwise◌
    fourth e = sym (from_4 ∙ simp e)

    by_bounds : (coefficients_in_range b ≡ true) × (sums_in_range b ≡ true) × (differences_right b ≡ true) → book_number b ≡ fifth
    unfolding refuse ◌otherwise◌
    by_bounds e = from_4 ∙ simp (e.0, e.1, e.2) (otherwise_none fifth)

    from_5 : coefficients_in_range b ≡ true → book_number b ≡ (fifth otherwise sixth) otherwise refuse 7 (not (sums_in_range b))
    unfolding refuse ◌otherwise◌
    from_5 e = from_4 ∙ simp e (sym (otherwise_assoc fifth sixth (refuse 7 (not (sums_in_range b)))))

    -- without the numbers 5 and 6
    seventh : coefficients_in_range b ≡ true → 0 ≡ fifth otherwise sixth → book_number b ≡ refuse 7 (not (sums_in_range b))
    seventh e f = from_5 e ∙ after_none _ f refl

pub returns-in_err-parts : goal.returns-in_err-parts
returns-in_err-parts c = handed_on (rest c.args.book.now) c.from_residual.result c.in_err-parts.field-0.0 c.from_residual.ensures.1 c.in_err-parts.ensures.number ∙ sym (parted c.args.book.now)

pub returns-then-settled : goal.returns-then-settled
returns-then-settled c =
    let o = c.in_ok-parts.ensures in
    let b = c.in_ok-parts.parts.words.now in
    c.check_first_impulse.ensures ∙ sym (by_bounds b (o.number ∙ ap heads (sym o.words)) (c.settled.ensures c.if-settled.true)) ∙ ap book_number o.words

pub returns-then-not-coefficients_in_range : goal.returns-then-not-coefficients_in_range
returns-then-not-coefficients_in_range c =
    let o = c.in_ok-parts.ensures in
    let b = c.in_ok-parts.parts.words.now in
    fourth b (o.number ∙ ap heads (sym o.words)) (test_fails c.coefficients_in_range.ensures c.if-not-coefficients_in_range.true) ∙ ap book_number o.words

pub returns-in_err-check_impulses : goal.returns-in_err-check_impulses
returns-in_err-check_impulses c =
    let o = c.in_ok-parts.ensures in
    let b = c.in_ok-parts.parts.words.now in
    let r = c.from_residual-in_err-check_impulses in
    handed_on _ r.result c.in_err-check_impulses.field-0.0 r.ensures.1 c.in_err-check_impulses.ensures
    ∙ sym (from_5 b (o.number ∙ ap heads (sym o.words)) (test_holds c.coefficients_in_range.ensures c.if-not-coefficients_in_range.false)) ∙ ap book_number o.words

pub returns-then-not-sums_in_range : goal.returns-then-not-sums_in_range
unfolding refuse
returns-then-not-sums_in_range c =
    let o = c.in_ok-parts.ensures in
    let b = c.in_ok-parts.parts.words.now in
    let left = seventh b (o.number ∙ ap heads (sym o.words)) (test_holds c.coefficients_in_range.ensures c.if-not-coefficients_in_range.false) c.in_ok-check_impulses.ensures in
    sym (left ∙ simp (test_fails c.sums_in_range.ensures c.if-not-sums_in_range.true)) ∙ ap book_number o.words

pub returns : goal.returns
unfolding refuse
returns c =
    let o = c.in_ok-parts.ensures in
    let b = c.in_ok-parts.parts.words.now in
    let left = seventh b (o.number ∙ ap heads (sym o.words)) (test_holds c.coefficients_in_range.ensures c.if-not-coefficients_in_range.false) c.in_ok-check_impulses.ensures in
    sym (left ∙ simp (test_holds c.sums_in_range.ensures c.if-not-sums_in_range.false)) ∙ ap book_number o.words
