-- `control::rate::band_of` meets its contract: no shift loses a bit. Assumes nothing.
use mathlib.Core.Path.{refl}
use Rattle.control.proofs.Bands.{band_shifted}
use Rattle.control.proofs.rate.band_of.Goals as goal
use Rattle.control.proofs.rate.band_of.Goals.{then-level-eq0, else-level-eq0}

pub returns : goal.returns
returns c =
    elim c.if-level-eq0.branch [
      | then-level-eq0 w ↦ band_shifted c.args.level c.requires (λ z. w.low-is) (λ n. absurd (n w.if-level-eq0.true)) refl
      | else-level-eq0 w ↦ band_shifted c.args.level c.requires (λ z. absurd (w.if-level-eq0.false z)) (λ n. w.low-is) refl
    ]
