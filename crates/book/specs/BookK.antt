-- Book K (document 01, "Bench cases"), which cases and programs play.
use Rattle.std.specs.Prelude.{ℕ, List, [], ◌∷◌, ℤ, pos, negsuc}

-- book K with another F, h[0] and g[0]
abbrev pub book_with : ℕ → ℕ → ℕ → List ℤ
book_with F h₀ g₀ = pos 2 ∷ pos 1 ∷ pos 0 ∷ pos 0 ∷ pos F ∷ pos 0 ∷ pos 16384 ∷ pos 16384 ∷ negsuc 16383 ∷ pos h₀ ∷ pos g₀ ∷ []

-- book K: 2,1,0,0,1, 0,16384, 16384,−16384, 16384, 16384
abbrev pub book_k : List ℤ
book_k = book_with 1 16384 16384
