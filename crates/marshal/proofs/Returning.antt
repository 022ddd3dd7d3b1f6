-- What a call over words leaves, by what the player's call hands back. Assumes nothing.
use Rattle.std.specs.Result.{IsErrAnd}
use Rattle.std.proofs.lemmas.Result.{err_from_is_err_and}
use Rattle.std.proofs.Common.{◌≡◌, ℕ, Bool, true, false, not, cond, eqb, List, ℤ, Result, refl, sym, ap, ◌∙◌}
use borrow.Author.Tests.{eqb-true}
use Rattle.refusal.specs.declared.Refusal.{Refusal}
use Rattle.refusal.specs.Number.{number, number_of, refuse}
use Rattle.refusal.proofs.Numbers.{handed, not_refused}
use Rattle.player.specs.declared.Voice.{Voice}
use Rattle.player.specs.declared.Refused.{Refused}
use Rattle.player.specs.Calls.{Answer, answer, Played, played}
use Rattle.marshal.specs.Words.{words_of}
use Rattle.marshal.specs.Calls.{crossed, returned, PlayCrossed, play_crossed, count_of}

-- ---- 28, or a voice of 95 words
no_28 : (t : Bool) {n : ℕ} → n ≡ refuse 28 (not t) → eqb (refuse 28 (not t)) 0 ≡ false → (n ≡ 28) × (t ≡ false)
unfolding refuse
no_28 true e h = cc
no_28 false e h = (e, refl)

pub wrong_length : {A : Type 0} (t : Bool) (a : Result A Refusal) (r : Refusal) → IsErrAnd a (λ q. q ≡ r) → number r ≡ refuse 28 (not t) → (number_of a ≡ 28) × (t ≡ false)
wrong_length t a r is e = let h = handed a r is e in no_28 t h.0 h.1

pub right_length : (n : ℕ) → 0 ≡ refuse 28 (not (eqb n 95)) → (eqb n 95 ≡ true) × (n ≡ 95)
right_length n e = let t = not_refused 27 (eqb n 95) (sym e) in (t, eqb-true n 95 t)

-- ---- an order or a seek
pub returned_accepted : (voice words : List ℤ) (v : Voice) (a : Answer) → answer 0 v ≡ a → words ≡ words_of v → crossed 0 words ≡ returned voice a
unfolding returned
returned_accepted voice words v a e w = ap (crossed 0) w ∙ ap (returned voice) e

pub returned_refused : (voice : List ℤ) (r : Refused) (a : Answer) (q : Result Unit Refusal) → IsErrAnd q (λ n. n ≡ r.refusal) → answer (number r.refusal) r.voice ≡ a
    → crossed (number_of q) voice ≡ returned voice a
unfolding returned
returned_refused voice r a q is e = let h = handed q r.refusal is (ap (λ x. x.number) e) in simp (h.1) (ap (λ n. crossed n voice) h.0)

-- ---- a play
abbrev pub written_back : List ℤ → Played → PlayCrossed
written_back voice p = play_crossed p.number (cond (eqb p.number 0) (words_of p.voice) voice) p.multiplies p.words

pub play_accepted : (voice words left : List ℤ) (v : Voice) (m : ℕ) (p : Played) → played 0 v m left ≡ p → words ≡ words_of v → play_crossed 0 words m left ≡ written_back voice p
play_accepted voice words left v m p e w = ap (λ x. play_crossed 0 x m left) w ∙ ap (written_back voice) e

-- a refusal has no count
pub no_count : (q : Result ℕ Refusal) (r : Refusal) → IsErrAnd q (λ n. n ≡ r) → count_of q ≡ 0
no_count q r is = let s = err_from_is_err_and q is in rw s.1

pub play_refused : (voice left : List ℤ) (r : Refused) (p : Played) (q : Result ℕ Refusal) → IsErrAnd q (λ n. n ≡ r.refusal) → played (number r.refusal) r.voice 0 left ≡ p
    → play_crossed (number_of q) voice (count_of q) left ≡ written_back voice p
play_refused voice left r p q is e =
    let h = handed q r.refusal is (ap (λ x. x.number) e) in
    let none = no_count q r.refusal is in
    simp (h.1) (ap (λ n. play_crossed n voice (count_of q) left) h.0 ∙ ap (λ m. play_crossed p.number voice m left) (none ∙ ap (λ x. x.multiplies) e) ∙ ap (λ x. play_crossed p.number voice p.multiplies x.words) e)
