-- The laws of levels: how long each is, how large its words are, and where it lies among all of them. Assumes nothing.
use mathlib.Core.Path.{◌≡◌, refl, sym, ap, ◌∙◌}
use mathlib.Core.List.{List, [], ◌++◌, append_assoc}
use Prim.Native.Nat.{ℕ, zero, suc, ◌+◌, ◌^◌, ◌≤◌}
use native.Mathlib.Nat.{le_refl}
use native.Mathlib.Numerals.{add-one}
use native.Mathlib.Decide.{dec_le}
use native.Mathlib.Omega.{arith}
use lib.IntN.{ℤ, pos, nat_abs, ◌*ℤ◌}
use lib.ListN.{length, drop, length-append, length-map, get_or-map}
use Rattle.arith.specs.Lists.{at, part, overwrite}
use Rattle.arith.proofs.Linear.{abs-*}
use Rattle.book.specs.Check.{tap_sum}
use Rattle.octave.specs.Octave.{half_length, next_level}
use Rattle.store.specs.Sizes.{level_length, levels_below}
use Rattle.levels.specs.Levels.{first_level, level_of, levels_of}
use Rattle.octave.proofs.Octave.{length-next, next_bound}
use Rattle.store.proofs.Lengths.{levels_below-zero, levels_below_more}
use Rattle.arith.proofs.Parts.{part_middle, overwrite-behind}

-- ---- how long

pub length_first : (x : List ℤ) → length (first_level x) ≡ length x
unfolding first_level
length_first x = length-map x (λ s. s *ℤ pos 256)

pub length_level : (h x : List ℤ) (j : ℕ) → length (level_of h x j) ≡ level_length (length x) j
unfolding level_of level_length
length_level h x zero = length_first x
length_level h x (suc j) = length-next h (level_of h x j) ∙ ap half_length (length_level h x j)

pub length_levels : (h x : List ℤ) (T : ℕ) → length (levels_of h x T) ≡ levels_below (length x) (T + 1)
unfolding levels_of
length_levels h x zero = omega (arith, length_level h x 0, levels_below-zero (length x), levels_below_more (length x) 0)
length_levels h x (suc T) =
    let e : suc T ≡ T + 1 = omega arith in
    length-append (levels_of h x T) (level_of h x (suc T)) ∙ rw e (omega (arith, length_levels h x T, length_level h x (T + 1), levels_below_more (length x) (T + 1)))

-- ---- its words

pub at_first : (x : List ℤ) (k : ℕ) → at (first_level x) k ≡ at x k *ℤ pos 256
unfolding first_level
at_first x k = get_or-map (λ s. s *ℤ pos 256) x k (pos 0)

-- ---- how large

pub level_bound : (h x : List ℤ) → tap_sum h ≤ 32768 → ((k : ℕ) → nat_abs (at x k) ≤ 2 ^ 15) → (j k : ℕ) → nat_abs (at (level_of h x j) k) ≤ 2 ^ (23 + j)
unfolding level_of
level_bound h x small bound zero k = rw (at_first x k, abs-*) (omega (arith, bound k))
level_bound h x small bound (suc j) k =
    let e : 23 + suc j ≡ suc (23 + j) = omega arith in
    rw e (omega (arith, next_bound h (level_of h x j) small (2 ^ (23 + j)) (level_bound h x small bound j) k))

-- ---- where

pub levels_zero : (h x : List ℤ) → levels_of h x 0 ≡ first_level x
unfolding levels_of level_of
levels_zero h x = refl

pub level_begins : (h x rest : List ℤ) (T j : ℕ) → j ≤ T → part (levels_of h x T ++ rest) (levels_below (length x) j) (level_length (length x) j) ≡ level_of h x j
unfolding levels_of
level_begins h x rest zero j l = let e : j ≡ 0 = omega arith in rw e (part_middle [] (level_of h x 0) rest (levels_below (length x) 0) (level_length (length x) 0) (sym (levels_below-zero (length x))) (length_level h x 0))
level_begins h x rest (suc T) j l = rw append_assoc (go (dec_le j T) (level_begins h x (level_of h x (suc T) ++ rest) T j))
  where
    whole : List ℤ
    whole = levels_of h x T ++ (level_of h x (suc T) ++ rest)

    go : Dec (j ≤ T) → (j ≤ T → part whole (levels_below (length x) j) (level_length (length x) j) ≡ level_of h x j) → part whole (levels_below (length x) j) (level_length (length x) j) ≡ level_of h x j
    go (yes m) before = before m
    go (no m) before =
        let e : j ≡ suc T = omega arith in
        rw e (part_middle (levels_of h x T) (level_of h x (suc T)) rest (levels_below (length x) (suc T)) (level_length (length x) (suc T)) (length_levels h x T ∙ ap (levels_below (length x)) (add-one T)) (length_level h x (suc T)))

-- a store that begins with levels 0..j, with the level above level j written behind it, begins with levels 0..j + 1
pub levels_more : (h x xs : List ℤ) (j : ℕ) {store : List ℤ} {start words : ℕ} → store ≡ overwrite xs 0 (levels_of h x j) → start ≡ levels_below (length x) j → words ≡ level_length (length x) j
    → overwrite store (start + words) (next_level h (part store start words)) ≡ overwrite xs 0 (levels_of h x (j + 1))
unfolding levels_of level_of
levels_more h x xs j e m n =
    let end : length (levels_of h x j) ≡ levels_below (length x) j + level_length (length x) j = length_levels h x j ∙ levels_below_more (length x) j in
    rw (e, m, n, level_begins h x (drop (0 + length (levels_of h x j)) xs) j j (le_refl j), add-one)
    (overwrite-behind xs (levels_of h x j) (level_of h x (suc j)) (levels_below (length x) j + level_length (length x) j) end)
