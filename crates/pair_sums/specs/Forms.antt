-- Words in one part or in two, and the sums over them: no rule of document 01, but a step of the code that computes one.
use Rattle.std.specs.Prelude.{List, ℕ, ◌^◌, ℤ, pos, ◌+ℤ◌, ◌*ℤ◌}
use Rattle.pair_sums.specs.Pairs.{upper_part, lower_part, sample_part, line_sum, Small}
use Rattle.pair_sums.specs.declared.places.Places.{Places}
use Rattle.pair_sums.specs.declared.scratch.Form.{Form}
use Rattle.pair_sums.specs.declared.scratch.Form.TheVariants.{TwoParts, OnePart}

-- words taken apart, where P f xs says how f of each stands in xs
abbrev pub InForm : Form → ((ℤ → ℤ) → List ℤ → Type 0) → List ℤ → List ℤ → Type 0
InForm TwoParts P high low = P upper_part high × P lower_part low
InForm OnePart P high low = P sample_part high

-- sum j of line p over words
abbrev pub line_at : List ℤ → Places → List ℤ → ℕ → ℕ → ℤ
line_at rows at_places words p j = line_sum rows words at_places.first at_places.others at_places.far at_places.pairs p j

-- all sums over words are at most c
abbrev pub SmallAt : List ℤ → Places → List ℤ → ℕ → Type 0
SmallAt rows at_places words c = Small rows words at_places.first at_places.others at_places.far at_places.pairs c

-- the sums fit their 32 bits
abbrev pub SmallIn : Form → List ℤ → Places → List ℤ → List ℤ → Type 0
SmallIn TwoParts rows places high low = SmallAt rows places high (2 ^ 26) × SmallAt rows places low (2 ^ 30)
SmallIn OnePart rows places high low = SmallAt rows places high (2 ^ 30)

-- what they come to together
abbrev pub sum_in : Form → List ℤ → Places → List ℤ → List ℤ → ℕ → ℕ → ℤ
sum_in TwoParts rows places high low p j = pos 65536 *ℤ line_at rows places high p j +ℤ line_at rows places low p j
sum_in OnePart rows places high low p j = pos 256 *ℤ line_at rows places high p j
