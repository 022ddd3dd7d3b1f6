-- A number brought between two bounds.
use Rattle.std.specs.Prelude.{cond, ℤ}
use Rattle.std.specs.Int.Signed.{lt_z}

-- x, limited to lo..hi
unfoldable pub limit : ℤ → ℤ → ℤ → ℤ
limit lo hi x = cond (lt_z x lo) lo (cond (lt_z hi x) hi x)
