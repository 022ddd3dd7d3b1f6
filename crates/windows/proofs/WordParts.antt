-- Words in 16-bit parts: the parts of a word, and a loop that writes them, one word after another. Assumes nothing.
use mathlib.Core.Bool.{Bool, true, false, cond}
use mathlib.Core.Path.{◌≡◌, refl, sym, ap, ◌∙◌}
use borrow.Author.Tests.{eqb-true}
use lib.Dec.{eqb}
use mir.Syntax.{w32}
use mir.Val.{SFits, of_z, to_z}
use mir.ValLaws.{to_z-of_z}
use mathlib.Core.List.{List}
use Prim.Native.Nat.{ℕ, ◌+◌, ◌^◌, ◌≤◌, ◌<◌}
use native.Mathlib.Decide.{ℕ_discrete}
use native.Mathlib.Omega.{arith}
use lib.IntN.{ℤ, pos, negsuc, nat_abs, ◌+ℤ◌, ◌-ℤ◌, ◌*ℤ◌}
use lib.ListN.{length, set}
use lib.Seq.{get_or-set_same, get_or-set_other}
use lib.Signed.{shr_z}
use Rattle.arith.specs.Floor.{floor_div}
use Rattle.arith.specs.Limit.{limit}
use Rattle.arith.specs.Lists.{at}
use Rattle.arith.proofs.Floor.{floor-≤, floor-<, floor_bound}
use Rattle.arith.proofs.Limit.{limit-same}
use Rattle.arith.proofs.Linear.{linear}
use Rattle.windows.specs.Parts.{Within, Sample, Samples, PartsOf, SamplesOf}

-- ---- the parts of a word

-- a shift rounds down
shr_floor : (x : ℤ) (m : ℕ) → shr_z x m ≡ floor_div x m
unfolding floor_div
shr_floor (pos n) m = refl
shr_floor (negsuc n) m = refl

module _ (x : ℤ) (small : nat_abs x ≤ 2 ^ 27) where
  pub high_small : nat_abs (shr_z x 16384) ≤ 8192
  high_small = rw (shr_floor x 16384) (floor_bound x (omega arith) 8192 small)

  pub low_small : nat_abs (x -ℤ shr_z x 16384 *ℤ pos 16384) ≤ 16383
  low_small =
      let h : 0 < 16384 = omega arith in
      rw (shr_floor x 16384) (simp linear (omega (arith, simp linear at (floor-≤ x h), simp linear at (floor-< x h))))

  pub high_narrow : {r : ℤ} → r ≡ limit (negsuc 32767) (pos 32767) (shr_z x 16384) → r ≡ shr_z x 16384
  high_narrow e =
      let y = shr_z x 16384 in
      e ∙ limit-same (negsuc 32767) (pos 32767) y (simp linear (omega (arith, simp linear at high_small))) (simp linear (omega (arith, simp linear at high_small)))

-- no miss is counted of a word that is 256 × s
pub multiple : {x : ℤ} (s : ℤ) {m : ℕ} → SFits w32 x → SFits w32 (s *ℤ pos 256) → m ≡ cond (eqb (of_z w32 x) (of_z w32 (s *ℤ pos 256))) 0 1 → m ≡ 0 → x ≡ s *ℤ pos 256
multiple {x} s {m} f g e z = go (eqb (of_z w32 x) (of_z w32 (s *ℤ pos 256))) refl e
  where
    go : (t : Bool) → eqb (of_z w32 x) (of_z w32 (s *ℤ pos 256)) ≡ t → m ≡ cond t 0 1 → x ≡ s *ℤ pos 256
    go true t e = sym (to_z-of_z w32 x f) ∙ ap (to_z w32) (eqb-true _ _ t) ∙ to_z-of_z w32 (s *ℤ pos 256) g
    go false t e = absurd (omega arith)

-- ---- two lists, with v and w written at k

module _ (xs ys : List ℤ) (k : ℕ) (v w : ℤ) (h : k < length xs) (l : k < length ys) where
  -- what holds of both there, and elsewhere of what they had
  written : (P : ℕ → ℤ → ℤ → Type 0) → P k v w → (j : ℕ) → ((j ≡ k → ⊥) → P j (at xs j) (at ys j)) → P j (at (set xs k v) j) (at (set ys k w) j)
  written P here j other = go (ℕ_discrete j k)
    where
      go : Dec (j ≡ k) → P j (at (set xs k v) j) (at (set ys k w) j)
      go (yes p) = rw (p, get_or-set_same xs k v (pos 0) h, get_or-set_same ys k w (pos 0) l) here
      go (no n) = rw (get_or-set_other xs k j v (pos 0) n, get_or-set_other ys k j w (pos 0) n) (other n)

set-every : (P : ℤ → Type 0) (xs : List ℤ) (k : ℕ) (v : ℤ) → k < length xs → ((j : ℕ) → P (at xs j)) → P v → (j : ℕ) → P (at (set xs k v) j)
set-every P xs k v h all e j = written xs xs k v v h h (λ i x y. P x) e j (λ n. all j)

-- ---- a loop that takes words apart

module _ (window high low : List ℤ) where
  pub parts_none : Within 8192 high → Within 16383 low → PartsOf window 0 high low
  parts_none s t = record { word = λ j h. absurd (omega arith); high_small = s; low_small = t }

  pub parts_more : (k : ℕ) (v w : ℤ) → k < length high → k < length low → PartsOf window k high low → at window k ≡ v *ℤ pos 16384 +ℤ w → nat_abs v ≤ 8192 → nat_abs w ≤ 16383
      → PartsOf window (k + 1) (set high k v) (set low k w)
  parts_more k v w h l p e s t = record {
    word = λ j m. written high low k v w h l (λ i x y. at window i ≡ x *ℤ pos 16384 +ℤ y) e j (λ n. p.word j (omega arith));
    high_small = set-every (λ x. nat_abs x ≤ 8192) high k v h p.high_small s;
    low_small = set-every (λ x. nat_abs x ≤ 16383) low k w l p.low_small t;
  }

-- ---- a loop that takes samples

module _ (window first second : List ℤ) where
  pub samples_none : Samples first → Samples second → SamplesOf window 0 first second
  samples_none s t = record { word = λ j h. absurd (omega arith); first_narrow = s; second_narrow = t }

  pub samples_more : (k : ℕ) (v : ℤ) → k < length first → k < length second → SamplesOf window k first second → at window k ≡ v *ℤ pos 256 → Sample v
      → SamplesOf window (k + 1) (set first k v) (set second k v)
  samples_more k v h l p e s = record {
    word = λ j m. written first second k v v h l (λ i x y. (at window i ≡ x *ℤ pos 256) × (at window i ≡ y *ℤ pos 256)) (e, e) j (λ n. p.word j (omega arith));
    first_narrow = set-every Sample first k v h p.first_narrow s;
    second_narrow = set-every Sample second k v l p.second_narrow s;
  }
