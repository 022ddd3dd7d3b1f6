-- The word that a line begins with, and how it is spelled a letter at a time. Assumes nothing.
use mathlib.Core.Path.{◌≡◌, refl, sym, ap, subst, ◌∙◌}
use mathlib.Core.Bool.{Bool, true, false, ◌&&◌, cond, true≢false}
use mathlib.Core.List.{List, [], ◌∷◌}
use Prim.Native.Nat.{ℕ, zero, suc}
use lib.Dec.{eqb, leb}
use lib.ListN.{drop}
use borrow.Author.Tests.{eqb-true}
use Rattle.std.specs.Prelude.{Option, Some, None, slice_get}
use Rattle.drive_text.specs.declared.Line.{Line}
use Rattle.drive_text.specs.declared.Line.TheVariants.{Play as ToPlay, Other}
use Rattle.drive_text.specs.declared.Word.{Word}
use Rattle.drive_text.specs.declared.Word.TheVariants.{Jump, Glide, Seek, Play}
use Rattle.drive_text.specs.Lines.{blank}
use Rattle.drive_text.specs.Calls.{output_limit, same, with_one, with_two}
use Rattle.drive_text.specs.Inner.{letters_of, word_from, one_said, two_said}

-- ---- the word that letters spell

abbrev pub checked : List ℕ → Option Word → Option Word
checked xs None = None
checked xs (Some w) = cond (same xs (drop 1 (letters_of w))) (Some w) None

abbrev pub word_of : List ℕ → Option Word
word_of [] = None
word_of (x ∷ xs) = checked xs (word_from x)

-- what it says with a number, and with two
abbrev pub one_by : Option Word → ℕ → Line
one_by None n = Other
one_by (Some w) n = one_said w n

abbrev pub two_by : Option Word → ℕ → ℕ → Line
two_by None a c = Other
two_by (Some w) a c = two_said w a c

-- a fact of every first letter: of each that begins a word, and of the others
by_first : (P : ℕ → Type 0) (x : ℕ) → P 106 → P 103 → P 115 → P 112
    → (eqb x 106 ≡ false → eqb x 103 ≡ false → eqb x 115 ≡ false → eqb x 112 ≡ false → P x) → P x
by_first P x j g s p other = go (eqb x 106) (eqb x 103) (eqb x 115) (eqb x 112) refl refl refl refl
  where
    go : (a b c d : Bool) → eqb x 106 ≡ a → eqb x 103 ≡ b → eqb x 115 ≡ c → eqb x 112 ≡ d → P x
    go true b c d h i k l = subst P (sym (eqb-true x 106 h)) j
    go false true c d h i k l = subst P (sym (eqb-true x 103 i)) g
    go false false true d h i k l = subst P (sym (eqb-true x 115 k)) s
    go false false false true h i k l = subst P (sym (eqb-true x 112 l)) p
    go false false false false h i k l = other h i k l

pub with_one_lem : (word : List ℕ) (n : ℕ) → with_one word n ≡ one_by (word_of word) n
unfolding with_one same word_from letters_of one_said
with_one_lem [] n = refl
with_one_lem (x ∷ xs) n = by_first (λ y. with_one (y ∷ xs) n ≡ one_by (word_of (y ∷ xs)) n) x
    (jump (same xs (drop 1 (letters_of Jump)))) (glide (same xs (drop 1 (letters_of Glide)))) (seek (same xs (drop 1 (letters_of Seek)))) (play (same xs (drop 1 (letters_of Play))))
    (λ h i k l. simp (h, i, k, l))
  where
    jump : (t : Bool) → cond t (one_said Jump n) Other ≡ one_by (cond t (Some Jump) None) n
    jump true = refl
    jump false = refl

    glide : (t : Bool) → Other ≡ one_by (cond t (Some Glide) None) n
    glide true = refl
    glide false = refl

    seek : (t : Bool) → cond t (one_said Seek n) Other ≡ one_by (cond t (Some Seek) None) n
    seek true = refl
    seek false = refl

    play : (t : Bool) → cond (t && leb n output_limit) (ToPlay n) Other ≡ one_by (cond t (Some Play) None) n
    play true = refl
    play false = refl

pub with_two_lem : (word : List ℕ) (a c : ℕ) → with_two word a c ≡ two_by (word_of word) a c
unfolding with_two same word_from letters_of two_said
with_two_lem [] a c = refl
with_two_lem (x ∷ xs) a c = by_first (λ y. with_two (y ∷ xs) a c ≡ two_by (word_of (y ∷ xs)) a c) x
    (other Jump refl (same xs (drop 1 (letters_of Jump)))) (glide (same xs (drop 1 (letters_of Glide)))) (other Seek refl (same xs (drop 1 (letters_of Seek)))) (other Play refl (same xs (drop 1 (letters_of Play))))
    (λ h i k l. simp (h, i, k, l))
  where
    glide : (t : Bool) → cond t (two_said Glide a c) Other ≡ two_by (cond t (Some Glide) None) a c
    glide true = refl
    glide false = refl

    other : (w : Word) → two_said w a c ≡ Other → (t : Bool) → Other ≡ two_by (cond t (Some w) None) a c
    other w e true = sym e
    other w e false = refl

-- ---- whether letters are those of a word, by the word alone

abbrev pub equal : Word → Word → Bool
equal Jump Jump = true
equal Jump Glide = false
equal Jump Seek = false
equal Jump Play = false
equal Glide Jump = false
equal Glide Glide = true
equal Glide Seek = false
equal Glide Play = false
equal Seek Jump = false
equal Seek Glide = false
equal Seek Seek = true
equal Seek Play = false
equal Play Jump = false
equal Play Glide = false
equal Play Seek = false
equal Play Play = true

abbrev pub is_word : Option Word → Word → Bool
is_word None w = false
is_word (Some v) w = equal v w

hit : (w : Word) → equal w w ≡ true → (t : Bool) → is_word (cond t (Some w) None) w ≡ t
hit w e true = e
hit w e false = refl

missed : (v w : Word) → equal v w ≡ false → (t : Bool) → is_word (cond t (Some v) None) w ≡ false
missed v w e true = e
missed v w e false = refl

-- words are equal just where their letters are
pub word_same : (xs : List ℕ) (w : Word) → is_word (word_of xs) w ≡ same xs (letters_of w)
unfolding same word_from letters_of
word_same [] Jump = refl
word_same [] Glide = refl
word_same [] Seek = refl
word_same [] Play = refl
word_same (x ∷ xs) Jump = by_first (λ y. is_word (word_of (y ∷ xs)) Jump ≡ same (y ∷ xs) (letters_of Jump)) x
    (hit Jump refl (same xs (drop 1 (letters_of Jump)))) (missed Glide Jump refl (same xs (drop 1 (letters_of Glide)))) (missed Seek Jump refl (same xs (drop 1 (letters_of Seek)))) (missed Play Jump refl (same xs (drop 1 (letters_of Play))))
    (λ h i k l. simp (h, i, k, l))
word_same (x ∷ xs) Glide = by_first (λ y. is_word (word_of (y ∷ xs)) Glide ≡ same (y ∷ xs) (letters_of Glide)) x
    (missed Jump Glide refl (same xs (drop 1 (letters_of Jump)))) (hit Glide refl (same xs (drop 1 (letters_of Glide)))) (missed Seek Glide refl (same xs (drop 1 (letters_of Seek)))) (missed Play Glide refl (same xs (drop 1 (letters_of Play))))
    (λ h i k l. simp (h, i, k, l))
word_same (x ∷ xs) Seek = by_first (λ y. is_word (word_of (y ∷ xs)) Seek ≡ same (y ∷ xs) (letters_of Seek)) x
    (missed Jump Seek refl (same xs (drop 1 (letters_of Jump)))) (missed Glide Seek refl (same xs (drop 1 (letters_of Glide)))) (hit Seek refl (same xs (drop 1 (letters_of Seek)))) (missed Play Seek refl (same xs (drop 1 (letters_of Play))))
    (λ h i k l. simp (h, i, k, l))
word_same (x ∷ xs) Play = by_first (λ y. is_word (word_of (y ∷ xs)) Play ≡ same (y ∷ xs) (letters_of Play)) x
    (missed Jump Play refl (same xs (drop 1 (letters_of Jump)))) (missed Glide Play refl (same xs (drop 1 (letters_of Glide)))) (missed Seek Play refl (same xs (drop 1 (letters_of Seek)))) (hit Play refl (same xs (drop 1 (letters_of Play))))
    (λ h i k l. simp (h, i, k, l))

-- the blank begins no word
pub blank_begins : (x : ℕ) → eqb x blank ≡ true → word_from x ≡ None
unfolding word_from
blank_begins x h = rw (eqb-true x blank h) refl

-- ---- the letters that are left

abbrev pub first_of : List ℕ → Option ℕ
first_of [] = None
first_of (y ∷ ys) = Some y

abbrev pub rest_of : List ℕ → List ℕ
rest_of [] = []
rest_of (y ∷ ys) = ys

pub letter_at : (l : List ℕ) (k : ℕ) → slice_get l k ≡ first_of (drop k l)
letter_at [] zero = refl
letter_at [] (suc k) = refl
letter_at (y ∷ ys) zero = refl
letter_at (y ∷ ys) (suc k) = letter_at ys k

pub drop_next : (l : List ℕ) (k : ℕ) → drop (suc k) l ≡ rest_of (drop k l)
drop_next [] zero = refl
drop_next [] (suc k) = refl
drop_next (y ∷ ys) zero = refl
drop_next (y ∷ ys) (suc k) = drop_next ys k

-- none is a blank
abbrev without_blank : List ℕ → Bool
without_blank [] = true
without_blank (y ∷ ys) = cond (eqb y blank) false (without_blank ys)

left_without : (l : List ℕ) (k : ℕ) → without_blank l ≡ true → without_blank (drop k l) ≡ true
left_without l zero h = h
left_without [] (suc k) h = refl
left_without (y ∷ ys) (suc k) h = left_without ys k (go (eqb y blank) h)
  where
    go : (t : Bool) → cond t false (without_blank ys) ≡ true → without_blank ys ≡ true
    go true e = absurd (true≢false (sym e))
    go false e = e

letters_without : (w : Word) → without_blank (letters_of w) ≡ true
unfolding letters_of
letters_without Jump = refl
letters_without Glide = refl
letters_without Seek = refl
letters_without Play = refl

pub letter_no_blank : (w : Word) (k y : ℕ) (ys : List ℕ) → drop k (letters_of w) ≡ y ∷ ys → eqb y blank ≡ false
letter_no_blank w k y ys e = go (eqb y blank) (sym (ap without_blank e) ∙ left_without (letters_of w) k (letters_without w))
  where
    go : (t : Bool) → cond t false (without_blank ys) ≡ true → t ≡ false
    go true h = absurd (true≢false (sym h))
    go false h = refl
