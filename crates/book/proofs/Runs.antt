-- The rule of the differences, phase by phase, is one of three runs of words: every phase but the last, the last phase but its last
-- tap, and that tap. Assumes nothing.
use Rattle.std.proofs.Common.{◌≡◌, ℕ, suc, pred, ◌+◌, ◌-◌, ◌*◌, ◌<◌, ◌≤◌, Bool, true, ◌&&◌, List, ℤ, pos, ◌-ℤ◌, sym, refl, ap, ◌∙◌, ap₂, arith}
use Rattle.arith.specs.Lists.{at}
use Rattle.arith.specs.Tests.{eq_z, every}
use Rattle.arith.proofs.Tests.{every_ext, every_rows, every-split}
use Rattle.book.specs.Book.{sizes_of, differences_at, impulse_word, impulse, difference}
use Rattle.book.specs.Check.{differences_right}
use Rattle.book.proofs.Bounds.{Bounded}
use Rattle.book.proofs.Parts.{impulse_stored, impulse_past, impulse_end}

-- word `to` + i is word `next` + i less word `from` + i
abbrev pub right_at : List ℤ → ℕ → ℕ → ℕ → ℕ → Bool
right_at b to next from i = eq_z (at b (to + i)) (at b (next + i) -ℤ at b (from + i))

-- three words, found at other indices
pub same_words : (b : List ℤ) {i i' j j' k k' : ℕ} → i ≡ i' → j ≡ j' → k ≡ k' → eq_z (at b i) (at b j -ℤ at b k) ≡ eq_z (at b i') (at b j' -ℤ at b k')
same_words b p q r = ap₂ eq_z (ap (at b) p) (ap₂ ◌-ℤ◌ (ap (at b) q) (ap (at b) r))

module _ (b : List ℤ) (m n : ℕ) (phases_are : (sizes_of b).phases ≡ suc m) (taps_are : (sizes_of b).taps ≡ suc n) where
  abbrev N : ℕ
  N = (sizes_of b).taps

  abbrev A : ℕ
  A = (sizes_of b).phases * (sizes_of b).taps

  -- the rule at (q, k)
  abbrev D : ℕ → ℕ → Bool
  D q k = eq_z (difference b q k) (impulse b (suc q) k -ℤ impulse b q k)

  array_is : A ≡ m * N + N
  array_is = ap (λ p. p * N) phases_are ∙ omega arith

  early : (q k : ℕ) → q < m → D q k ≡ right_at b (5 + A) (5 + N) 5 (q * N + k)
  unfolding difference differences_at impulse_word
  early q k h =
      let stored = impulse_stored b q k (omega arith) in
      let next = impulse_stored b (suc q) k (omega arith) in
      simp (stored, next) (same_words b refl (omega arith) refl)

  late : (k : ℕ) → k < n → D m k ≡ right_at b (5 + A + (A - N)) 6 (5 + (A - N)) k
  unfolding difference differences_at impulse_word
  late k h =
      let stored = impulse_stored b m k (omega arith) in
      let next = ap (λ q. impulse b q k) (sym phases_are) ∙ impulse_past b k (omega arith) in
      simp (stored, next) (same_words b (omega (arith, array_is)) (omega arith) (omega (arith, array_is)))

  final : D m n ≡ eq_z (at b (4 + A + A)) (pos 0 -ℤ at b (4 + A))
  unfolding difference differences_at impulse_word
  final =
      let stored = impulse_stored b m n (omega arith) in
      let next = ap (λ q. impulse b q n) (sym phases_are) ∙ impulse_end b n (omega arith) in
      let i : 5 + A + (m * N + n) ≡ 4 + A + A = omega (arith, array_is) in
      let k : 5 + (m * N + n) ≡ 4 + A = omega (arith, array_is) in
      simp (stored, next) (ap₂ eq_z (ap (at b) i) (ap (λ j. pos 0 -ℤ at b j) k))

  abbrev early_run : ℕ → Bool
  early_run = right_at b (5 + A) (5 + N) 5

  abbrev late_run : ℕ → Bool
  late_run = right_at b (5 + A + (A - N)) 6 (5 + (A - N))

  runs : differences_right b ≡ every (A - N) early_run && (every (N - 1) late_run && eq_z (at b (4 + A + A)) (pos 0 -ℤ at b (4 + A)))
  unfolding differences_right every
  runs =
      let early-count : m * N ≡ A - N = omega (arith, array_is) in
      let late-count : n ≡ N - 1 = omega arith in
      let first = every_ext m (λ q h. every_ext N (λ k l. early q k h)) ∙ every_rows m N early_run ∙ ap (λ j. every j early_run) early-count in
      let second = every_ext n late ∙ ap (λ j. every j late_run) late-count in
      ap (λ p. every p (λ q. every N (D q))) phases_are ∙ ap₂ ◌&&◌ first (ap (λ p. every p (D m)) taps_are ∙ ap₂ ◌&&◌ second final)

-- the same over an array of A words and phases of N
all_runs : (b : List ℤ) (A N : ℕ) → Bounded (sizes_of b) → A ≡ (sizes_of b).phases * (sizes_of b).taps → N ≡ (sizes_of b).taps
    → differences_right b ≡ every (A - N) (right_at b (5 + A) (5 + N) 5) && (every (N - 1) (right_at b (5 + A + (A - N)) 6 (5 + (A - N))) && eq_z (at b (4 + A + A)) (pos 0 -ℤ at b (4 + A)))
all_runs b A N f array taps =
    let m : (sizes_of b).phases ≡ suc (pred (sizes_of b).phases) = omega (arith, f.phases_low) in
    let n : (sizes_of b).taps ≡ suc (pred (sizes_of b).taps) = omega (arith, f.taps_low) in
    rw (array, taps) (runs b _ _ m n)

-- and where the first s differences are right
pub differences_runs : (b : List ℤ) (A N s : ℕ) → Bounded (sizes_of b) → A ≡ (sizes_of b).phases * (sizes_of b).taps → N ≡ (sizes_of b).taps → s + N ≤ A → every s (right_at b (5 + A) (5 + N) 5) ≡ true
    → differences_right b
    ≡ every (A - N - s) (right_at b (5 + A + s) (5 + N + s) (5 + s)) && (every (N - 1) (right_at b (5 + A + (A - N)) 6 (5 + (A - N))) && eq_z (at b (4 + A + A)) (pos 0 -ℤ at b (4 + A)))
differences_runs b A N s f array taps room right =
    let early : ℕ → Bool = right_at b (5 + A) (5 + N) 5 in
    let parts : A - N ≡ s + (A - N - s) = omega arith in
    let rest = every_ext (A - N - s) {f = λ i. early (s + i)} {g = right_at b (5 + A + s) (5 + N + s) (5 + s)} (λ i h. same_words b (omega arith) (omega arith) (omega arith)) in
    let known = ap (λ j. every j early) parts ∙ every-split s (A - N - s) early ∙ ap (λ t. t && every (A - N - s) (λ i. early (s + i))) right ∙ rest in
    all_runs b A N f array taps ∙ ap (λ t. t && (every (N - 1) (right_at b (5 + A + (A - N)) 6 (5 + (A - N))) && eq_z (at b (4 + A + A)) (pos 0 -ℤ at b (4 + A)))) known
