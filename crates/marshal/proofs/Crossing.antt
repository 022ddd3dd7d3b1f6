-- A voice that is written as words is read back as it was, if its fields fit their types. So a list of calls over words is that
-- list of calls on voices. Assumes nothing.
use mathlib.Core.Path.{◌≡◌, sym, ap, ap₂, ◌∙◌}
use mathlib.Core.Bool.{cond}
use Prim.Native.Nat.{ℕ, suc, ◌+◌, ◌-◌, ◌*◌, ◌/◌, ◌%◌, ◌^◌, ◌<◌}
use native.Mathlib.Decide.{dec_le}
use native.Mathlib.Omega.{arith}
use borrow.Author.Tests.{lt-ltb, le-ltb}
use mir.Syntax.{w32, w64}
use mir.Val.{Fits, to_z, of_z}
use lib.Dec.{ltb}
use Rattle.std.proofs.lemmas.Int.{of_z-to_z}
use lib.IntN.{ℤ, pos, negsuc, ◌-ℤ◌}
use lib.ListN.{length}
use lib.Seq.{take_all}
use Rattle.arith.specs.Words.{unsigned}
use Rattle.arith.proofs.Linear.{linear}
use Rattle.player.specs.declared.Voice.{Voice}
use Rattle.marshal.specs.Words.{signed, wide, low_word, high_word, control_of, voice_of, control_words, words_of}

-- ---- one word, and two

difference_below : (n : ℕ) → n < 2 ^ 32 → pos n -ℤ pos (2 ^ 32) ≡ negsuc (2 ^ 32 - suc n)
difference_below n h = simp linear (omega arith)

unsigned_signed : (n : ℕ) → n < 2 ^ 32 → Dec (n < 2 ^ 31) → unsigned (signed n) ≡ n
unfolding unsigned signed
unsigned_signed n h (yes l) = ap (λ t. unsigned (cond t (pos n) (pos n -ℤ pos (2 ^ 32)))) (lt-ltb n (2 ^ 31) l)
unsigned_signed n h (no l) =
    let back : 2 ^ 32 - suc (2 ^ 32 - suc n) ≡ n = omega arith in
    ap (λ t. unsigned (cond t (pos n) (pos n -ℤ pos (2 ^ 32)))) (le-ltb n (2 ^ 31) (omega arith)) ∙ ap unsigned (difference_below n h) ∙ back

pub word_back : (n : ℕ) → n < 2 ^ 32 → unsigned (signed n) ≡ n
word_back n h = unsigned_signed n h (dec_le (suc n) (2 ^ 31))

pub wide_back : (n : ℕ) → n < 2 ^ 64 → wide (low_word n) (high_word n) ≡ n
unfolding wide low_word high_word
wide_back n h =
    let whole : n % 2 ^ 32 + n / 2 ^ 32 * 2 ^ 32 ≡ n = omega arith in
    ap₂ (λ low high. low + high * 2 ^ 32) (word_back (n % 2 ^ 32) (omega arith)) (word_back (n / 2 ^ 32) (omega arith)) ∙ whole

-- ---- words as the code makes them: a number's bits, and what a local of 32 bits gives back
signed_is : (n : ℕ) → n < 2 ^ 32 → to_z w32 n ≡ signed n
unfolding signed
signed_is n h = ap (cond (ltb n (2 ^ 31)) (pos n)) (sym (difference_below n h))

pub signed_bits : (n : ℕ) (x : ℤ) → Fits w32 n → x ≡ to_z w32 n → to_z w32 (of_z w32 x) ≡ signed n
signed_bits n x f e = ap (λ y. to_z w32 (of_z w32 y)) e ∙ ap (to_z w32) (of_z-to_z w32 n (omega arith)) ∙ signed_is n (omega arith)

pub low_bits : (n : ℕ) (x : ℤ) → x ≡ low_word n → to_z w32 (of_z w32 x) ≡ low_word n
unfolding low_word
low_bits n x e = signed_bits (n % 2 ^ 32) x (record { fits = omega arith }) (e ∙ sym (signed_is (n % 2 ^ 32) (omega arith)))

pub high_bits : (n : ℕ) (x : ℤ) → Fits w64 n → x ≡ high_word n → to_z w32 (of_z w32 x) ≡ high_word n
unfolding high_word
high_bits n x f e =
    let h : n / 2 ^ 32 < 2 ^ 32 = omega arith in
    signed_bits (n / 2 ^ 32) x (record { fits = omega arith }) (e ∙ sym (signed_is (n / 2 ^ 32) h))

-- ---- a voice whose fields fit their types

pub record VoiceFits (v : Voice) : Type 0 where
  pub top : v.control.top < 2 ^ 32
  pub from : v.control.fade.from < 2 ^ 32
  pub to : v.control.fade.to < 2 ^ 32
  pub step : v.control.fade.step < 2 ^ 32
  pub rate : v.control.rate < 2 ^ 64
  pub start : v.control.glide.start < 2 ^ 64
  pub target : v.control.glide.target < 2 ^ 64
  pub count : v.control.glide.count < 2 ^ 32
  pub done : v.control.glide.done < 2 ^ 32
  pub position : v.control.position < 2 ^ 64
  pub points : length v.history ≡ 81

control_back : (v : Voice) → VoiceFits v → control_of (words_of v) ≡ v.control
unfolding words_of control_words control_of
control_back v f =
    simp (
      word_back _ f.top,
      word_back _ f.from,
      word_back _ f.to,
      word_back _ f.step,
      wide_back _ f.rate,
      wide_back _ f.start,
      wide_back _ f.target,
      word_back _ f.count,
      word_back _ f.done,
      wide_back _ f.position,
    )

pub voice_back : (v : Voice) → VoiceFits v → voice_of (words_of v) ≡ v
unfolding voice_of words_of control_words
voice_back v f = ap₂ {C = Voice} (λ control history. record { control = control; history = history }) (control_back v f) (take_all 81 v.history (omega (arith, f.points)))
