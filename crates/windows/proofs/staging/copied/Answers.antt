-- `windows::staging::copied` meets its contract. The loop's invariant: the words passed are written, from the end of the window back, and no misses are
-- counted where they lie within the limit. Assumes nothing.
use mathlib.Core.List.{List}
use mathlib.Core.Path.{◌≡◌, refl, sym, ◌∙◌}
use Rattle.std.proofs.Common.{rules}
use Prim.Native.Nat.{ℕ, ◌+◌, ◌-◌, ◌≤◌, ◌<◌}
use native.Mathlib.Decide.{ℕ_discrete}
use native.Mathlib.Omega.{arith}
use lib.IntN.{ℤ, pos, neg_ℤ, nat_abs, ◌-ℤ◌, +ℤ_idl}
use lib.ListN.{length, set}
use lib.Seq.{get_or-set_same, get_or-set_other}
use lib.Signed.{◌≤ℤ◌}
use mir.Syntax.{w32}
use mir.Val.{SFits}
use Rattle.arith.specs.Lists.{at}
use Rattle.arith.specs.Tests.{every}
use Rattle.arith.proofs.Bits.{reads, read32}
use Rattle.arith.proofs.Integers.{abs-≤}
use Rattle.arith.proofs.Tests.{every-at, every_count, within_true}
use Rattle.windows.proofs.Staged.{negated_fits}
use Rattle.windows.proofs.staging.copied.Invariants.{holds, Back}
use Rattle.windows.proofs.staging.copied.Goals as goal

back_more : (n : ℕ) (words window : List ℤ) (k : ℕ) {v : ℤ} → k < n → n ≤ length window → Back n words window k → v ≡ at words k → Back n words (set window (n - 1 - k) v) (k + 1)
back_more n words window k {v} h room below e j l = go (ℕ_discrete j k)
  where
    go : Dec (j ≡ k) → at (set window (n - 1 - k) v) (n - 1 - j) ≡ at words j
    go (yes d) = rw d (get_or-set_same window (n - 1 - k) v (pos 0) (omega arith) ∙ e)
    go (no d) = get_or-set_other window (n - 1 - k) (n - 1 - j) v (pos 0) (λ p. d (omega arith)) ∙ below j (omega arith)

pub loop-k-init : goal.loop-k-init
unfolding every
loop-k-init c = (omega arith, (λ j h. absurd (omega arith)), refl)

pub loop-k-preserved : goal.loop-k-preserved
loop-k-preserved c =
    let words = c.args.words.now in
    let bound = c.args.bound in
    let k = c.loop-k.k in
    let f : SFits w32 (at words k) = search rules in (
      omega arith,
      simp (reads, f) (back_more (length words) words c.loop-k.window k (omega arith) (omega arith) c.loop-k.invariant.1 refl),
      every_count k (holds words (read32 (pos 0 -ℤ read32 bound)) (read32 bound)) c.loop-k.misses c.loop-k.invariant.2 (simp (reads, f) at c.between.ensures) c.miss-misses.ensures.0,
    )

-- between −b and b
inside : (b x : ℤ) → b ≡ pos (nat_abs b) → (neg_ℤ b ≤ℤ x) × (x ≤ℤ b) → nat_abs x ≤ nat_abs b
inside b x e h = abs-≤ x (rw e at h.1, rw e at h.0)

pub returns-clause-within : goal.returns-clause-within
returns-clause-within c e k h =
    let words = c.args.words.now in
    let b = c.args.bound in
    let all = simp (reads, c.ranges.bound, +ℤ_idl, negated_fits b c.requires.bound.0) at c.loop-k.invariant.2 in
    inside b (at words k) c.requires.bound.1 (within_true (neg_ℤ b) b (at words k) (every-at c.loop-k.k (holds words (neg_ℤ b) b) (sym all ∙ e) k (omega arith)))
