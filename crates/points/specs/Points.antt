-- Points (document 01, "One output").
use Rattle.std.specs.Prelude.{cond, List, ◌-◌, eqb, ℤ, pos, ◌+ℤ◌, ◌*ℤ◌}
use Rattle.arith.specs.Floor.{near}
use Rattle.book.specs.Book.{sizes_of}
use Rattle.values.specs.Values.{value}
use Rattle.control.specs.declared.Plan.{Plan}

-- a point: in a fade near(((F−i) × old + i × new) / F), both levels being read at P; else the current level's value
unfoldable pub point : List ℤ → List ℤ → Plan → ℤ
point b store p =
    let F = (sizes_of b).fade in
    let old = value b store p.old p.position in
    let new = value b store p.new p.position in
    cond (eqb p.step 0) old (near (pos (F - p.step) *ℤ old +ℤ pos p.step *ℤ new) F)
