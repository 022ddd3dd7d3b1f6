-- `levels::writer::write_header` meets its contract: T and S are written in front of the lengths. Assumes nothing.
use mathlib.Core.List.{List, ◌∷◌}
use mathlib.Core.Path.{◌≡◌, sym, ap, ◌∙◌}
use Prim.Native.Nat.{ℕ, suc, ◌+◌, ◌^◌, ◌≤◌, ◌<◌}
use native.Mathlib.Omega.{arith}
use lib.IntN.{ℤ, pos}
use lib.ListN.{length, set}
use lib.Seq.{paste}
use Rattle.arith.specs.Lists.{overwrite}
use Rattle.arith.proofs.Linear.{linear}
use Rattle.arith.proofs.Bits.{reads}
use Rattle.arith.proofs.Lists.{length-tabulate, get_or-tabulate, paste_none, paste_more, paste_all, overwrite_front}
use Rattle.octave.specs.Octave.{half_length}
use Rattle.store.specs.Sizes.{level_length}
use Rattle.store.specs.Store.{header_of}
use Rattle.store.proofs.Lengths.{level_length-zero, level_length-≤, level_length_more}
use Rattle.levels.proofs.writer.write_header.Invariants.{lengths_of}
use Rattle.levels.proofs.writer.write_header.Goals as goal

lengths_count : (S T : ℕ) → length (lengths_of S T) ≡ suc T
lengths_count S T = length-tabulate (suc T) (λ j. pos (level_length S j))

-- a length more
written : (S T : ℕ) (given store : List ℤ) (j n : ℕ) → 3 + T ≤ length given → j < suc T → n ≡ level_length S j → store ≡ paste given 2 (lengths_of S T) j
    → set store (2 + j) (pos n) ≡ paste given 2 (lengths_of S T) (j + 1)
written S T given store j n room l len now =
    ap (λ xs. set xs (2 + j) (pos n)) now
    ∙ paste_more given 2 (lengths_of S T) j (pos 0) (pos n) (omega arith) (omega (arith, lengths_count S T))
    (ap pos len ∙ sym (get_or-tabulate (suc T) (λ i. pos (level_length S i)) j (pos 0) l))

-- all lengths, and both words in front of them
both_written : (S T : ℕ) (given store : List ℤ) (j : ℕ) → 3 + T ≤ length given → j ≡ suc T → store ≡ paste given 2 (lengths_of S T) j
    → set (set store 1 (pos T)) 0 (pos S) ≡ overwrite given 0 (header_of S T)
unfolding header_of
both_written S T given store j room all now =
    ap (λ xs. set (set xs 1 (pos T)) 0 (pos S)) (now ∙ paste_all given 2 (lengths_of S T) j (omega (arith, lengths_count S T)))
    ∙ ap (λ xs. set xs 0 (pos S)) (overwrite_front given 1 (lengths_of S T) (pos T) (omega arith))
    ∙ overwrite_front given 0 (pos T ∷ lengths_of S T) (pos S) (omega arith)

pub loop-level-init : goal.loop-level-init
loop-level-init c = (sym (level_length-zero c.args.recorded), paste_none c.args.store.now 2 (lengths_of c.args.recorded c.args.top))

pub overflow_cast-store : goal.overflow_cast-store
overflow_cast-store c = simp linear (omega (arith, c.loop-level.invariant.0, level_length-≤ c.args.recorded c.loop-level.level))

pub loop-level-preserved : goal.loop-level-preserved
loop-level-preserved c =
    let S = c.args.recorded in
    let j = c.loop-level.level in
    let i = c.loop-level.invariant in
    let low : c.loop-level.length < 2 ^ 31 = omega (arith, i.0, level_length-≤ S j) in (
      c.half_length-length.ensures ∙ ap half_length i.0 ∙ sym (level_length_more S j),
      simp (reads, low) (written S c.args.top c.args.store.now c.loop-level.store j c.loop-level.length (omega arith) (omega arith) i.0 i.1),
    )

pub returns : goal.returns
returns c =
    let top : c.args.top < 2 ^ 31 = omega arith in
    let samples : c.args.recorded < 2 ^ 31 = omega arith in
    simp (reads, top, samples) (both_written c.args.recorded c.args.top c.args.store.now c.loop-level.store c.loop-level.level (omega arith) (omega arith) c.loop-level.invariant.1)
