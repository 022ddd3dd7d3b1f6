-- What a refused call leaves: its number is not 0, and the voice is the one that the refusal holds. Assumes nothing.
use Rattle.std.specs.Result.{IsErrAnd}
use Rattle.std.proofs.lemmas.Result.{err_from_is_err_and}
use Rattle.std.proofs.Common.{◌≡◌, ℕ, cond, false, eqb, List, ℤ, Result, sym, ap, ◌∙◌}
use borrow.Author.Tests.{ne_eqb}
use Rattle.refusal.specs.Number.{number}
use Rattle.refusal.proofs.Numbers.{number_given}
use Rattle.player.specs.declared.Voice.{Voice}
use Rattle.player.specs.declared.Refused.{Refused}
use Rattle.player.specs.declared.Play.{Play}
use Rattle.player.specs.Calls.{answer, answer_of, played, played_of}

module _ {n : ℕ} {v : Voice} (r : Refused) (e : answer (number r.refusal) r.voice ≡ answer n v) where
  given : eqb n 0 ≡ false
  given = ne_eqb _ _ (λ z. number_given r.refusal (ap (λ a. a.number) e ∙ z))

  pub refused : (a : Result Voice Refused) (w : Voice) → IsErrAnd a (λ q. q ≡ r) → answer_of a ≡ answer n (cond (eqb n 0) w v)
  refused a w is = let p = err_from_is_err_and a is in rw (p.1, p.2, given) e

  pub play_refused : (a : Result Play Refused) (w : Voice) (m : ℕ) (words left : List ℤ) → IsErrAnd a (λ q. q ≡ r)
      → played_of a left ≡ played n (cond (eqb n 0) w v) (cond (eqb n 0) m 0) (cond (eqb n 0) words left)
  play_refused a w m words left is = let p = err_from_is_err_and a is in rw (p.1, p.2, given) (ap (λ d. played d.number d.voice 0 left) e)

-- and where the code goes on, there is no number
pub none : {n : ℕ} {v : Voice} → answer 0 v ≡ answer n v → n ≡ 0
none e = sym (ap (λ a. a.number) e)
