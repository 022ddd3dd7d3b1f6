-- `control::rate::asked_level` meets its contract: inside the band the level stays, and outside it is that of the rate's octave. Assumes
-- nothing.
use mathlib.Core.Path.{◌≡◌, sym, ap, ◌∙◌}
use mathlib.Core.Bool.{cond}
use Rattle.control.specs.Rate.{octave_level}
use Rattle.control.specs.Inner.{band_of, in_band}
use Rattle.control.proofs.Bands.{band_asked, band_stays}
use Rattle.control.proofs.rate.asked_level.Goals as goal
use Rattle.control.proofs.rate.asked_level.Goals.{After-in_band, Start}

-- what the test says of the band
module _ (c : After-in_band) where
  abbrev s : Start
  s = c.before.before

  tested : c.in_band.result ≡ in_band (band_of s.args.current) s.args.rate
  tested = c.in_band.ensures ∙ ap (λ b. in_band b s.args.rate) c.before.band_of.ensures

pub returns-then-in_band : goal.returns-then-in_band
returns-then-in_band c = sym (band_stays (s c.before).args.current (s c.before).args.rate (s c.before).requires (sym (tested c.before) ∙ c.if-in_band.true))

pub returns : goal.returns
returns c =
    let i = c.before.before in
    let outside = sym (tested i) ∙ c.before.if-in_band.false in
    c.octave_level.ensures ∙ sym (band_asked (s i).args.current (s i).args.rate (s i).requires ∙ ap (λ b. cond b (s i).args.current (octave_level (s i).args.rate)) outside)
