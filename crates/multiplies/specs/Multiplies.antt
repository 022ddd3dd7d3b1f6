-- How much arithmetic a block took (document 02, (e)): its multiply count, by the plans of its points one after another.
use Rattle.std.specs.Prelude.{cond, ◌≡◌, ℕ, zero, suc, ◌+◌, ◌*◌, ◌<◌, eqb}
use Rattle.book.specs.declared.Sizes.{Sizes}
use Rattle.control.specs.declared.Control.{Control}
use Rattle.control.specs.declared.Plan.{Plan}
use Rattle.positions.specs.Runs.{first_plan, second_plan}

-- the level values that a point makes, by its i: in a fade both, also at i = F where the old one has weight 0, since both levels are read
-- at P; without a fade, where i is 0, one
unfoldable pub values_made : ℕ → ℕ
values_made i = cond (eqb i 0) 1 2

-- 2N for each level value made
unfoldable pub point_multiplies : Sizes → Plan → ℕ
point_multiplies s p = values_made p.step * (2 * s.taps)

-- the output after n others: its two points, and 2B + 1
unfoldable pub output_multiplies : Sizes → Control → ℕ → ℕ
output_multiplies s c n = point_multiplies s (first_plan s.fade c n) + point_multiplies s (second_plan s.fade c n) + (2 * s.decimation + 1)

-- n outputs from control c
unfoldable pub multiplies : Sizes → Control → ℕ → ℕ
multiplies s c zero = 0
multiplies s c (suc n) = multiplies s c n + output_multiplies s c n

-- ---- the two formulas that are proved about it (`proofs/Multiplies`)

-- it never exceeds outputs × (8N + 2B + 1)
abbrev pub most_multiplies : Sizes → ℕ → ℕ
most_multiplies s n = n * (8 * s.taps + 2 * s.decimation + 1)

-- a block without fades has exactly outputs × (4N + 2B + 1)
abbrev pub steady_multiplies : Sizes → ℕ → ℕ
steady_multiplies s n = n * (4 * s.taps + 2 * s.decimation + 1)

-- a block of n outputs without fades: no point of them is in one
abbrev pub WithoutFades : ℕ → Control → ℕ → Type 0
WithoutFades F c n = (k : ℕ) → k < n → ((first_plan F c k).step ≡ 0) × ((second_plan F c k).step ≡ 0)
