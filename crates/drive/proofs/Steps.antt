-- What two players hand out over a list of calls, sample by sample, from single steps of a relation between their states. Assumes those
-- steps: the record `Steps`.
use mathlib.Core.Path.{◌≡◌, refl, sym, ◌∙◌}
use mathlib.Core.List.{List, [], ◌∷◌, ◌++◌}
use Prim.Native.Nat.{ℕ, zero, suc, ◌+◌, ◌-◌, ◌<◌}
use native.Mathlib.Nat.{not-suc-le-zero}
use native.Mathlib.Decide.{dec_lt, ℕ_discrete}
use native.Mathlib.Omega.{arith}
use lib.IntN.{ℤ}
use lib.ListN.{length, length-append, get_or-append}
use lib.Seq.{get_or-append-add}
use Rattle.arith.specs.Lists.{at, tabulate}
use Rattle.arith.proofs.Lists.{length-tabulate, get_or-tabulate}
use Rattle.control.specs.declared.Order.{Order}
use Rattle.drive.specs.Lists.{Call, order, seek, play}
use Rattle.drive.proofs.Players.{Player}

-- ---- two lists of equal length, related at each place

module _ (R : ℤ → ℤ → Type 0) where
  abbrev pub Paired : List ℤ → List ℤ → Type 0
  Paired xs ys = (length xs ≡ length ys) × ((k : ℕ) → k < length xs → R (at xs k) (at ys k))

  none_paired : Paired [] []
  none_paired = (refl, λ k l. absurd (not-suc-le-zero l))

  -- one after another
  paired-++ : (xs xs' ys ys' : List ℤ) → Paired xs ys → Paired xs' ys' → Paired (xs ++ xs') (ys ++ ys')
  paired-++ xs xs' ys ys' c d = (rw (length-append xs xs', length-append ys ys', c.0, d.0), λ k l. go k (dec_lt k (length xs)) (simp length-append at l))
    where
      later : (j : ℕ) → j < length xs' → R (at (xs ++ xs') (length xs + j)) (at (ys ++ ys') (length xs + j))
      later j l = rw (get_or-append-add xs xs', c.0, get_or-append-add ys ys') (d.1 j l)

      go : (k : ℕ) → Dec (k < length xs) → k < length xs + length xs' → R (at (xs ++ xs') k) (at (ys ++ ys') k)
      go k (yes h) l = let m : k < length ys = omega arith in rw (get_or-append xs xs', get_or-append ys ys') (c.1 k h)
      go k (no h) l = let e : length xs + (k - length xs) ≡ k = omega arith in rw e at (later (k - length xs) (omega arith))

  -- made by two rules
  paired_tabulate : (n : ℕ) (f g : ℕ → ℤ) → ((k : ℕ) → R (f k) (g k)) → Paired (tabulate n f) (tabulate n g)
  paired_tabulate n f g each = (rw (length-tabulate n f, length-tabulate n g), λ k l. at_place k (simp length-tabulate at l))
    where
      at_place : (k : ℕ) → k < n → R (at (tabulate n f) k) (at (tabulate n g) k)
      at_place k l = rw (get_or-tabulate n f, get_or-tabulate n g) (each k)

-- ---- one step of each kind

pub record Steps (R : ℤ → ℤ → Type 0) {S S' : Type 0} (A : Player S) (B : Player S') (Rel : S → S' → Type 0) : Type 0 where
  -- both give a call the same number
  pub number_same : (s : S) (s' : S') (c : Call) → Rel s s' → A.number s c ≡ B.number s' c
  -- an accepted order, an accepted seek and one output keep the relation
  pub order-kept : (s : S) (s' : S') (o : Order) → Rel s s' → A.number s (order o) ≡ 0 → Rel (A.ordered_state s o) (B.ordered_state s' o)
  pub seek-kept : (s : S) (s' : S') (P : ℕ) → Rel s s' → A.number s (seek P) ≡ 0 → Rel (A.sought_state s P) (B.sought_state s' P)
  pub output-kept : (s : S) (s' : S') → Rel s s' → Rel (A.next s) (B.next s')
  -- the newest outputs are related
  pub newest_related : (s : S) (s' : S') → Rel s s' → R (A.newest s) (B.newest s')

-- ---- the induction

module _ {R : ℤ → ℤ → Type 0} {S S' : Type 0} {A : Player S} {B : Player S'} {Rel : S → S' → Type 0} (steps : Steps R A B Rel) where
  outputs-kept : (s : S) (s' : S') (n : ℕ) → Rel s s' → Rel (A.after s n) (B.after s' n)
  outputs-kept s s' zero r = rw (A.after_none s, B.after_none s') r
  outputs-kept s s' (suc n) r = rw (A.after_more s n, B.after_more s' n) (steps.output-kept (A.after s n) (B.after s' n) (outputs-kept s s' n r))

  -- a call keeps the relation, and its samples are related: by its number, which is the same for both
  call_kept : (s : S) (s' : S') (c : Call) → Rel s s' → Rel (A.state s c) (B.state s' c) × Paired R (A.samples s c) (B.samples s' c)
  call_kept s s' c r = go c (ℕ_discrete (A.number s c) 0)
    where
      accepts : (c : Call) → A.number s c ≡ 0 → B.number s' c ≡ 0
      accepts c h = sym (steps.number_same s s' c r) ∙ h

      go : (c : Call) → Dec (A.number s c ≡ 0) → Rel (A.state s c) (B.state s' c) × Paired R (A.samples s c) (B.samples s' c)
      go (order o) (yes h) =
          let a = A.ordered_by s o h in
          let b = B.ordered_by s' o (accepts (order o) h) in
          rw (a.0, a.1, b.0, b.1) (steps.order-kept s s' o r h, none_paired R)
      go (seek P) (yes h) =
          let a = A.sought_by s P h in
          let b = B.sought_by s' P (accepts (seek P) h) in
          rw (a.0, a.1, b.0, b.1) (steps.seek-kept s s' P r h, none_paired R)
      go (play words) (yes h) =
          let a = A.played_by_lem s words h in
          let b = B.played_by_lem s' words (accepts (play words) h) in
          let n = length words in
          let each : (k : ℕ) → R (A.newest (A.after s (suc k))) (B.newest (B.after s' (suc k))) = λ k. steps.newest_related (A.after s (suc k)) (B.after s' (suc k)) (outputs-kept s s' (suc k) r) in
          rw (a.0, a.1, b.0, b.1) (outputs-kept s s' n r, paired_tabulate R n (λ k. A.newest (A.after s (suc k))) (λ k. B.newest (B.after s' (suc k))) each)
      go c (no h) =
          let a = A.refused s c h in
          let b = B.refused s' c (λ z. h (steps.number_same s s' c r ∙ z)) in
          rw (a.0, a.1, b.0, b.1) (r, none_paired R)

  -- so are all samples of a list
  pub all_paired : (s : S) (s' : S') (calls : List Call) → Rel s s' → Paired R (A.all s calls) (B.all s' calls)
  all_paired s s' [] r = rw (A.all_none s, B.all_none s') (none_paired R)
  all_paired s s' (c ∷ calls) r =
      let kept = call_kept s s' c r in
      rw (A.all_more s c calls, B.all_more s' c calls)
      (paired-++ R (A.samples s c) (A.all (A.state s c) calls) (B.samples s' c) (B.all (B.state s' c) calls) kept.1 (all_paired (A.state s c) (B.state s' c) calls kept.0))
