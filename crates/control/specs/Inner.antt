-- Definitions that only inner functions' contracts cite: no rule of the documents, but a step of the code that computes one.
use Rattle.std.specs.Prelude.{Bool, ◌&&◌, cond, ℕ, ◌+◌, ◌*◌, ◌^◌, leb, ltb, eqb}
use Rattle.control.specs.declared.rate.Band.{Band}

-- the rates at which level l stays: from 15/16 of its octave's start, and from 0 at level 0, up to below the next octave
unfoldable pub band_of : ℕ → Band
band_of l = record { low = cond (eqb l 0) 0 (15 * 2 ^ (23 + l)); high = 2 ^ (28 + l) }

-- a rate is one of a band's
abbrev pub in_band : Band → ℕ → Bool
in_band b R = leb b.low R && ltb R b.high
