-- Tests that the code chains by `&&`. Assumes nothing.
use Rattle.std.proofs.Common.{◌≡◌, Bool, true, false, ◌&&◌, sym, refl, ◌∙◌}

-- one test more, s: it was made where those before it, r, hold
pub made : {r s v a b : Bool} → r ≡ a → r ≡ true → s ≡ b → v ≡ s → v ≡ a && b
made p q e f = rw (sym p ∙ q) (f ∙ e)

pub not_made : {r v a : Bool} (b : Bool) → r ≡ a → r ≡ false → v ≡ r → v ≡ a && b
not_made b p q f = rw (sym p ∙ q) (f ∙ q)

pub &&-assoc : (r s t : Bool) → (r && s) && t ≡ r && (s && t)
&&-assoc true s t = refl
&&-assoc false s t = refl
