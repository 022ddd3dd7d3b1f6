-- The laws of refusal numbers. Assumes nothing.
use Rattle.std.proofs.lemmas.Result.{err_from_is_err_and}
use Rattle.std.specs.Result.{IsErrAnd}
use Rattle.std.proofs.Common.{Result, Ok, Err, ◌≡◌, ℕ, zero, suc, Bool, true, false, not, eqb, sym, refl, ap, ◌∙◌, arith}
use borrow.Author.Tests.{not-false, ne_eqb}
use Rattle.refusal.specs.declared.Refusal.{Refusal}
use Rattle.refusal.specs.declared.Refusal.TheVariants.{BookShort, BookSize, BookLength, BookCoefficient, BookFirstImpulse, BookDifference, BookSum, SamplesOrTop, StoreShort, Rate, Count, Position, VoiceLevel, VoiceFade, VoiceRate, VoicePosition, VoiceHistory, StoreLevelLength, VoiceTop, VoiceLength}
use Rattle.refusal.specs.Number.{number, number_of, refuse, ◌otherwise◌}

-- where none of two numbers is given, neither is
pub none_first : (m n : ℕ) → m otherwise n ≡ 0 → m ≡ 0
unfolding ◌otherwise◌
none_first zero n e = refl
none_first (suc m) n e = e

pub none_second : (m n : ℕ) → m otherwise n ≡ 0 → n ≡ 0
unfolding ◌otherwise◌
none_second zero n e = e
none_second (suc m) n e = absurd (omega arith)

-- a number above 0 is not given: its condition does not hold
pub condition_fails : (n : ℕ) (c : Bool) → refuse (suc n) c ≡ 0 → c ≡ false
unfolding refuse
condition_fails n true e = absurd (omega arith)
condition_fails n false e = refl

pub not_refused : (n : ℕ) (c : Bool) → refuse (suc n) (not c) ≡ 0 → c ≡ true
not_refused n c e = not-false c (condition_fails n (not c) e)

-- a number that is given stays
pub otherwise_first : (m n : ℕ) → (m ≡ 0 → ⊥) → m otherwise n ≡ m
unfolding ◌otherwise◌
otherwise_first zero n h = absurd (h refl)
otherwise_first (suc m) n h = refl

-- and one that is not given leaves the next
pub zero_otherwise : (n : ℕ) → 0 otherwise n ≡ n
unfolding ◌otherwise◌
zero_otherwise n = refl

-- the first of three numbers, in either order of looking
pub otherwise_assoc : (m n p : ℕ) → (m otherwise n) otherwise p ≡ m otherwise (n otherwise p)
unfolding ◌otherwise◌
otherwise_assoc zero n p = refl
otherwise_assoc (suc m) n p = refl

pub otherwise_none : (m : ℕ) → m otherwise 0 ≡ m
unfolding ◌otherwise◌
otherwise_none zero = refl
otherwise_none (suc m) = refl

-- a number n that a function gave, the m of a definition, hides those after it
pub number_stays : {m n : ℕ} (next : ℕ) → n ≡ m → (n ≡ 0 → ⊥) → n ≡ m otherwise next
number_stays {m} next e given = e ∙ sym (otherwise_first m next (λ z. given (e ∙ z)))

-- and one that is not given leaves the next: m, which a definition has, is a number that a function gave as 0
pub after_none : {m n : ℕ} (next : ℕ) → n ≡ m → n ≡ 0 → m otherwise next ≡ next
after_none {m} next e none = ap (λ k. k otherwise next) (sym e ∙ none) ∙ zero_otherwise next

-- ---- answers: a refusal's number is not 0
pub number_given : (r : Refusal) → number r ≡ 0 → ⊥
number_given BookShort e = omega arith
number_given BookSize e = omega arith
number_given BookLength e = omega arith
number_given BookCoefficient e = omega arith
number_given BookFirstImpulse e = omega arith
number_given BookDifference e = omega arith
number_given BookSum e = omega arith
number_given SamplesOrTop e = omega arith
number_given StoreShort e = omega arith
number_given Rate e = omega arith
number_given Count e = omega arith
number_given Position e = omega arith
number_given VoiceLevel e = omega arith
number_given VoiceFade e = omega arith
number_given VoiceRate e = omega arith
number_given VoicePosition e = omega arith
number_given VoiceHistory e = omega arith
number_given StoreLevelLength e = omega arith
number_given VoiceTop e = omega arith
number_given VoiceLength e = omega arith

-- an answer that is a refusal hides the numbers after it
pub refused_stays : {A : Type 0} {m : ℕ} (next : ℕ) (a : Result A Refusal) (r : Refusal) → a ≡ Err r → number_of a ≡ m → number r ≡ m otherwise next
refused_stays next a r is e = number_stays next (sym (ap number_of is) ∙ e) (number_given r)

-- and one that is none leaves the next
pub accepted_leaves : {A : Type 0} {m : ℕ} (next : ℕ) (a : Result A Refusal) (x : A) → a ≡ Ok x → number_of a ≡ m → m otherwise next ≡ next
accepted_leaves next a x is e = after_none next e (ap number_of is)

-- an answer that is none has the number 0, and so has its definition
pub accepted_none : {A : Type 0} {m : ℕ} (a : Result A Refusal) (x : A) → a ≡ Ok x → number_of a ≡ m → m ≡ 0
accepted_none a x is e = sym e ∙ ap number_of is

-- a refusal that a function hands on hides the numbers after it
pub handed_on : {A : Type 0} {m : ℕ} (next : ℕ) (a : Result A Refusal) (r : Refusal) → IsErrAnd a (λ q. q ≡ r) → number r ≡ m → number_of a ≡ m otherwise next
handed_on next a r is e = let p = err_from_is_err_and a is in rw (p.1, p.2) (number_stays next e (number_given r))

-- and is no number 0
pub handed : {A : Type 0} {m : ℕ} (a : Result A Refusal) (r : Refusal) → IsErrAnd a (λ q. q ≡ r) → number r ≡ m → (number_of a ≡ m) × (eqb m 0 ≡ false)
handed a r is e = let p = err_from_is_err_and a is in (rw (p.1, p.2) e, ne_eqb _ _ (λ z. number_given r (e ∙ z)))
