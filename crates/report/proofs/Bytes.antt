-- Reading bytes one after another: a turn of the loop, and what two parts of the input make. Assumes nothing.
use mathlib.Core.Path.{◌≡◌, refl, sym, ap, ◌∙◌}
use mathlib.Core.List.{List, [], ◌∷◌, ◌++◌, append_assoc, append-nil}
use Prim.Native.Nat.{ℕ, ◌+◌, ◌<◌, ◌≤◌}
use native.Mathlib.Numerals.{add-one}
use native.Mathlib.Omega.{arith}
use lib.IntN.{ℤ}
use lib.ListN.{length, take, get_or}
use lib.Seq.{take-suc, take_all}
use Rattle.report.specs.declared.Report.{Report}
use Rattle.report.specs.Inner.{Step, Prints, behind, read_byte, read_bytes}

step_behind : (t u : List ℕ) (s : Step) → behind t (behind u s) ≡ behind (t ++ u) s
step_behind t u s = ap (λ l. record { report = s.report; text = l }) (sym (append_assoc t u s.text))

module _ (b store : List ℤ) where
  -- two parts, one after the other
  pub read_parts : (r : Report) (xs ys : List ℕ) → read_bytes b store r (xs ++ ys) ≡ (let s = read_bytes b store r xs in behind s.text (read_bytes b store s.report ys))
  unfolding read_bytes
  read_parts r [] ys = refl
  read_parts r (x ∷ xs) ys =
      let s : Step = read_byte b store r x in
      let t : Step = read_bytes b store s.report xs in
      ap (behind s.text) (read_parts s.report xs ys) ∙ step_behind s.text t.text (read_bytes b store t.report ys)

  read_one : (r : Report) (x : ℕ) → read_bytes b store r (x ∷ []) ≡ read_byte b store r x
  unfolding read_bytes
  read_one r x = let s : Step = read_byte b store r x in ap (λ t. record { report = s.report; text = t }) (append-nil s.text)

  -- no byte yet
  pub none_read : (r : Report) (before : List ℕ) → Prints (read_bytes b store r []) 0 before r before
  unfolding read_bytes
  none_read r before = record { step = ap (λ t. record { report = r; text = t }) (sym (append-nil before)); short = omega arith }

  -- the next byte
  pub one_read : (r : Report) (bytes : List ℕ) (i m n : ℕ) {before after then : List ℕ} {q next : Report} → i < length bytes → m + 96 ≡ n
      → Prints (read_bytes b store r (take i bytes)) m before q after → Prints (read_byte b store q (get_or bytes i 0)) 96 after next then
      → Prints (read_bytes b store r (take (i + 1) bytes)) n before next then
  one_read r bytes i m n {before} {after} {then} {q} {next} h e done turn =
      let x : ℕ = get_or bytes i 0 in
      let s : Step = read_bytes b store r (take i bytes) in
      let more : take (i + 1) bytes ≡ take i bytes ++ x ∷ [] = ap (λ k. take k bytes) (add-one i) ∙ take-suc bytes i 0 h in
      let whole : read_bytes b store r (take (i + 1) bytes) ≡ behind s.text (read_byte b store s.report x) =
      ap (read_bytes b store r) more ∙ read_parts r (take i bytes) (x ∷ []) ∙ ap (behind s.text) (read_one s.report x) in
      let now : behind after (read_byte b store q x) ≡ behind (before ++ s.text) (read_byte b store s.report x) =
      ap (λ (d : Step). behind d.text (read_byte b store d.report x)) done.step in
      record { step = turn.step ∙ now ∙ sym (step_behind before s.text (read_byte b store s.report x)) ∙ ap (behind before) (sym whole); short = omega (arith, done.short, turn.short) }

  -- all bytes
  pub all_read : (r : Report) (bytes : List ℕ) (i m n : ℕ) {before after : List ℕ} {q : Report} → length bytes ≤ i → m ≤ n
      → Prints (read_bytes b store r (take i bytes)) m before q after → Prints (read_bytes b store r bytes) n before q after
  all_read r bytes i m n {before} h l done = record { step = done.step ∙ ap (λ xs. behind before (read_bytes b store r xs)) (take_all i bytes h); short = omega (arith, done.short) }
