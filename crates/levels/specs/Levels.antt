-- The octave levels of a recording (document 01, "Octave levels"). h is the list of level taps.
use Rattle.std.specs.Prelude.{List, ◌++◌, map, ℕ, zero, suc, ℤ, pos, ◌*ℤ◌}
use Rattle.octave.specs.Octave.{next_level}

-- level 0: sample × 256
unfoldable pub first_level : List ℤ → List ℤ
first_level samples = map (λ x. x *ℤ pos 256) samples

-- level j of a recording
unfoldable pub level_of : List ℤ → List ℤ → ℕ → List ℤ
level_of h samples zero = first_level samples
level_of h samples (suc j) = next_level h (level_of h samples j)

-- levels 0..T one after another
unfoldable pub levels_of : List ℤ → List ℤ → ℕ → List ℤ
levels_of h samples zero = level_of h samples 0
levels_of h samples (suc T) = levels_of h samples T ++ level_of h samples (suc T)
