-- The multiply count that a play returns, for every book, store, voice and slice: its bound, what it is without fades, and that it adds up.
-- Assumes nothing.
use mathlib.Core.Path.{◌≡◌}
use mathlib.Core.Bool.{Bool, true, false, cond}
use mathlib.Core.List.{List, ◌++◌}
use Prim.Native.Nat.{ℕ, ◌+◌, ◌*◌, ◌≤◌}
use native.Mathlib.Omega.{arith}
use borrow.Author.Tests.{ne_eqb}
use lib.Dec.{eqb}
use lib.IntN.{ℤ}
use lib.ListN.{length, length-append}
use Rattle.book.specs.Book.{sizes_of}
use Rattle.player.specs.declared.Voice.{Voice}
use Rattle.player.specs.Outputs.{voice_after}
use Rattle.player.specs.Calls.{play_answer}
use Rattle.multiplies.specs.Multiplies.{multiplies, most_multiplies, steady_multiplies, WithoutFades}
use Rattle.multiplies.proofs.Multiplies.{bounded, steady, steady_55, multiplies-+}
use Rattle.player.proofs.RunPoints.{control_after_lem}
use Rattle.player.proofs.Accepted.{number_of, play_accepted, accepted_later}

module _ (b store : List ℤ) where
  -- the count of a play of a slice
  abbrev count : Voice → List ℤ → ℕ
  count v words = (play_answer b store v words).multiplies

  -- it never exceeds outputs × (8N + 2B + 1)
  pub play_bounded : (v : Voice) (words : List ℤ) → count v words ≤ most_multiplies (sizes_of b) (length words)
  unfolding play_answer
  play_bounded v words = go (eqb (number_of b store v (length words)) 0)
    where
      go : (t : Bool) → cond t (multiplies (sizes_of b) v.control (length words)) 0 ≤ most_multiplies (sizes_of b) (length words)
      go true = bounded (sizes_of b) v.control (length words)
      go false = omega arith

  -- a refused call returns 0
  pub play-refused : (v : Voice) (words : List ℤ) → ((play_answer b store v words).number ≡ 0 → ⊥) → count v words ≡ 0
  unfolding play_answer
  play-refused v words h = rw (ne_eqb _ 0 h)

  -- a block without fades has exactly outputs × (4N + 2B + 1)
  pub play_steady : (v : Voice) (words : List ℤ) → (play_answer b store v words).number ≡ 0 → WithoutFades (sizes_of b).fade v.control (length words)
      → count v words ≡ steady_multiplies (sizes_of b) (length words)
  unfolding play_answer
  play_steady v words e h = rw e (steady (sizes_of b) v.control (length words) h)

  -- with N = 12 and B = 3 that is the 55 an output of source document 002
  pub play_55 : (v : Voice) (words : List ℤ) → (sizes_of b).taps ≡ 12 → (sizes_of b).decimation ≡ 3 → (play_answer b store v words).number ≡ 0
      → WithoutFades (sizes_of b).fade v.control (length words) → count v words ≡ length words * 55
  unfolding play_answer
  play_55 v words n d e h = rw e (steady_55 (sizes_of b) v.control (length words) n d h)

  -- the count of a play that is cut in two is the sum of the parts
  pub play_cut : (v : Voice) (first second : List ℤ) → (play_answer b store v (first ++ second)).number ≡ 0
      → count v (first ++ second) ≡ count v first + count (play_answer b store v first).voice second
  unfolding play_answer voice_after
  play_cut v first second e =
      let m = length first in
      let k = length second in
      let whole : number_of b store v (m + k) ≡ 0 = rw length-append at e in
      let a = play_accepted b store v (m + k) whole in
      let one : number_of b store v m ≡ 0 = accepted_later a 0 m (omega arith) in
      let two : number_of b store (voice_after b store v m) k ≡ 0 = accepted_later a m k (omega arith) in
      rw (e, one, two, length-append, control_after_lem b store v m) (multiplies-+ (sizes_of b) v.control m k)
