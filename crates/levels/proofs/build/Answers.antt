-- `levels::build` meets its contract: a number writes nothing, and else the header is written, and behind it the levels. Assumes nothing.
use mathlib.Core.List.{List, ◌++◌}
use mathlib.Core.Path.{◌≡◌, sym, ap, ◌∙◌}
use Prim.Native.Nat.{ℕ, ◌+◌, ◌-◌, ◌≤◌}
use native.Mathlib.Nat.{le_trans, le_of_eq}
use native.Mathlib.Omega.{arith}
use lib.IntN.{ℤ}
use lib.ListN.{length, take, drop}
use Rattle.arith.specs.Lists.{part, overwrite}
use Rattle.arith.proofs.Lists.{part_length}
use Rattle.arith.proofs.Parts.{length-overwrite, overwrite-behind, overwrite_lent}
use Rattle.book.specs.Check.{tap_sum}
use Rattle.book.proofs.Accepted.{accepted, sizes_bounded, level_taps-length, level_taps-sum}
use Rattle.store.specs.Store.{header_of}
use Rattle.store.proofs.Lengths.{store_length_is}
use Rattle.store.proofs.Headers.{length_header}
use Rattle.levels.specs.Levels.{levels_of}
use Rattle.levels.specs.Build.{built, build_number, built_store, build_answer}
use Rattle.refusal.proofs.Numbers.{handed}
use Rattle.levels.proofs.Fitting.{Fitting, fitting}
use Rattle.levels.proofs.build.Goals as goal
use Rattle.levels.proofs.build.Goals.{After-write_header, In_ok-check_build}

-- nothing is refused
module _ (c : In_ok-check_build) where
  abbrev samples : List ℤ
  samples = c.args.samples.now

  abbrev top : ℕ
  top = c.args.top

  abbrev given : List ℤ
  given = c.args.store.now

  no_number : build_number c.args.book.now (length samples) top (length given) ≡ 0
  no_number = sym c.in_ok-check_build.ensures

  fits : Fitting c.args.book.now (length samples) top (length given)
  fits = fitting _ _ _ _ no_number

-- the header is written
module _ (c : After-write_header) where
  abbrev e : In_ok-check_build
  e = c.before.before

  abbrev headed : List ℤ
  headed = c.write_header.new.store

  headed_is : headed ≡ overwrite (given e) 0 (header_of (length (samples e)) (top e))
  headed_is = c.write_header.ensures

  headed_length : length headed ≡ length (given e)
  headed_length =
      ap length headed_is
      ∙ length-overwrite (given e) (header_of (length (samples e)) (top e)) 0
      (omega (arith, length_header (length (samples e)) (top e), (fits e).room, store_length_is (length (samples e)) (top e)))

  room : 3 + top e ≤ length headed
  room = omega (arith, headed_length, (fits e).room, store_length_is (length (samples e)) (top e))

  -- and behind it the levels
  levels_behind : (levels : List ℤ) → let a : ℕ = 3 + top e in
      let k : ℕ = length headed - a in
      take a headed ++ (overwrite (part headed a k) 0 levels ++ drop k (drop a headed)) ≡ overwrite (given e) 0 (header_of (length (samples e)) (top e) ++ levels)
  levels_behind levels =
      overwrite_lent headed levels (3 + top e) (length headed - (3 + top e)) (omega (arith, room))
      ∙ ap (λ xs. overwrite xs (3 + top e) levels) headed_is
      ∙ overwrite-behind (given e) (header_of (length (samples e)) (top e)) levels (3 + top e) (length_header (length (samples e)) (top e))

pub returns-in_err-check_build : goal.returns-in_err-check_build
unfolding build_answer
returns-in_err-check_build c =
    let a = c.args in
    let h = handed c.from_residual.result c.in_err-check_build.field-0.0 c.from_residual.ensures.1 c.in_err-check_build.ensures in
    simp (h.1) (ap (λ n. built n a.store.now) h.0)

pub write_header-requires : goal.write_header-requires
write_header-requires c =
    let f = fits c.before in
    (f.samples_high, f.top_high, omega (arith, f.room, store_length_is (length (samples c.before)) (top c.before)))

pub level_taps-requires : goal.level_taps-requires
level_taps-requires c = (fits c.before.before.before).book

pub slice_bounds-write_levels-count : goal.slice_bounds-write_levels-count
slice_bounds-write_levels-count c = room c.before.before.before.before

pub slice_bounds-write_levels-start : goal.slice_bounds-write_levels-start
slice_bounds-write_levels-start c = room c.before.before.before.before

pub invariant_of-taps : goal.invariant_of-taps
invariant_of-taps c =
    let h = c.before.before in
    let b = (e h).args.book.now in
    let f = fits (e h) in
    let a = accepted b f.book in
    let taps = c.level_taps.ensures in
    let count = ap length taps ∙ level_taps-length b a in
    let reach = (sizes_bounded b a).reach_high in record {
      some = omega (arith, count);
      few = omega (arith, count, reach);
      bounded = le_trans (le_of_eq (ap tap_sum taps)) (level_taps-sum b a);
    }

pub write_levels-requires : goal.write_levels-requires
write_levels-requires c =
    let h = c.before.before.before.before.before in
    let f = fits (e h) in
    let words = part_length (headed h) (3 + top (e h)) (length (headed h) - (3 + top (e h))) (omega (arith, room h)) in
    record { room = (f.samples_high, f.top_high, omega (arith, words, headed_length h, f.room, store_length_is (length (samples (e h))) (top (e h)))) }

pub returns : goal.returns
unfolding build_answer built_store
returns c =
    let w = c.before in
    let h = w.before.before.before.before.before.before in
    let a : ℕ = 3 + top (e h) in
    let k : ℕ = length (headed h) - a in
    let levels : List ℤ → List ℤ = λ taps. levels_of taps (samples (e h)) (top (e h)) in
    let written = w.write_levels.ensures ∙ ap (λ taps. overwrite (part (headed h) a k) 0 (levels taps)) w.before.before.before.before.level_taps.ensures in
    simp (no_number (e h)) (ap (λ xs. built 0 (take a (headed h) ++ (xs ++ drop k (drop a (headed h))))) written ∙ ap (built 0) (levels_behind h (levels _)))
