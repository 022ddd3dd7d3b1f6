-- `player::outputs::fill_from` meets its contract. Assumes nothing.
use mathlib.Core.Path.{◌≡◌, refl, sym, ap, ap₂, subst, ◌∙◌}
use mathlib.Core.List.{List}
use Prim.Native.Nat.{ℕ, ◌+◌, ◌-◌, ◌*◌, ◌^◌, ◌≤◌, ◌<◌, min}
use native.Mathlib.Nat.{le_trans, min-le_left, min-le_right}
use native.Mathlib.Decide.{dec_lt}
use native.Mathlib.Omega.{arith}
use lib.IntN.{ℤ, nat_abs}
use lib.ListN.{length, take, drop, length-drop}
use lib.Seq.{length-take-le}
use Rattle.arith.specs.Lists.{at, part, tabulate, overwrite}
use Rattle.arith.proofs.Lists.{at_outside, length-tabulate, paste_none, paste_whole}
use borrow.Rule.Slice.PartMut.{put_mid}
use Rattle.arith.proofs.Written.{part_all}
use Rattle.book.specs.Book.{sizes_of}
use Rattle.book.proofs.Accepted.{Accepted, accepted, sizes_bounded, decimation_taps-length}
use Rattle.control.specs.declared.Control.{Control}
use Rattle.control.specs.Valid.{Valid}
use Rattle.decimation.specs.Decimation.{output}
use Rattle.decimation.specs.declared.Taps.{Taps}
use Rattle.windows.specs.declared.source.Source.{Source}
use Rattle.positions.specs.Runs.{control_after}
use Rattle.points.specs.Points.{point}
use Rattle.points.specs.Runs.{run_points}
use Rattle.multiplies.specs.Inner.{run_values}
use Rattle.multiplies.proofs.Multiplies.{values_high, block_is}
use Rattle.player.specs.declared.Voice.{Voice}
use Rattle.player.specs.Outputs.{voice_after, outputs}
use Rattle.player.specs.Calls.{played, play_answer}
use Rattle.player.specs.Inner.{line_of}
use Rattle.player.proofs.Accepted.{PlayAccepted, number_of, play_accepted}
use Rattle.player.proofs.Blocks.{length-outputs}
use Rattle.player.proofs.Filled.{Filled, length_line, line_every, line_long, filled_more, values_more, filled_length, filled_ready, run_small, end_history}
use Rattle.player.proofs.outputs.fill_from.Goals as goal

-- a source, a voice and words that a play of them accepts
module _ (s : Source) (v : Voice) (out₀ : List ℤ) (ok : number_of s.book.now s.store.now v (length out₀) ≡ 0) (history_length : length v.history ≡ 81) where
  abbrev b : List ℤ
  b = s.book.now

  abbrev store : List ℤ
  store = s.store.now

  abbrev F : ℕ
  F = (sizes_of b).fade

  fine : PlayAccepted b store v (length out₀)
  fine = play_accepted b store v (length out₀) ok

  book : Accepted b
  book = accepted b fine.book_accepted

  fade_is : s.layout.fade ≡ F
  fade_is = s.laid_out.sizes.fade

  small₀ : (k : ℕ) → nat_abs (at v.history k) ≤ 2 ^ 29
  small₀ k = go (dec_lt k 81)
    where
      go : Dec (k < 81) → nat_abs (at v.history k) ≤ 2 ^ 29
      go (yes h) = fine.within k h
      go (no h) = rw (at_outside v.history k (omega (arith, history_length))) (omega arith)

  filled_none : {line : List ℤ} → line ≡ line_of v.history → drop 128 line ≡ v.history → Filled b store v out₀ v.control line out₀ 0
  unfolding voice_after
  filled_none e kept = record {
    count = omega arith;
    control = refl;
    long = ap length e ∙ length_line v.history history_length;
    points = kept;
    small = rw e (line_every (λ x. nat_abs x ≤ 2 ^ 29) (omega arith) v.history small₀);
    words = paste_none out₀ 0 (outputs b store v (length out₀));
  }

  -- ---- a turn
  module _ {d : Control} {line out : List ℤ} {i : ℕ} (p : Filled b store v out₀ d line out i) where
    ready : v.control.top ≤ s.top → (d.top ≤ s.top) × Valid s.layout.fade d
    ready high =
        let r = filled_ready p fine.valid in
        (rw r.1 high, subst (λ f. Valid f d) (sym fade_is) r.0)

    -- the points of n outputs more are on the line
    module _ (n : ℕ) {line₁ : List ℤ} (e : line₁ ≡ overwrite line (128 - 2 * n) (run_points (point b store) s.layout.fade d n)) where
      line_e : line₁ ≡ overwrite line (128 - 2 * n) (run_points (point b store) F d n)
      line_e = e ∙ ap (λ f. overwrite line (128 - 2 * n) (run_points (point b store) f d n)) fade_is

      points_small : (k : ℕ) → nat_abs (at line₁ k) ≤ 2 ^ 29
      points_small = run_small p history_length book fine.valid n line_e

      next_values : {x y : ℕ} → x ≡ run_values F v.control i → y ≡ run_values s.layout.fade d n → x + y ≡ run_values F v.control (i + n)
      next_values e f = ap₂ ◌+◌ e (f ∙ ap (λ g. run_values g d n) fade_is) ∙ values_more p n

      module _ (few : n ≤ 64) (room : i + n ≤ length out₀) where
        more : (t : Taps) {line₂ new : List ℤ} {d₁ : Control} → t.book.now ≡ b → d₁ ≡ control_after s.layout.fade d n
            → new ≡ tabulate (length (take (i + n - i) (drop i out))) (λ k. output t.book.now (part line₁ (126 - 2 * k) 81)) → line₂ ≡ overwrite line₁ 128 (part line₁ (128 - 2 * n) 81)
            → Filled b store v out₀ d₁ line₂ (put_mid i (i + n - i) out new) (i + n)
        more t {line₂} {new} {d₁} of control words kept_e =
            let k : ℕ = i + n - i in
            let part_length : length (take k (drop i out)) ≡ n = length-take-le k (drop i out) (omega (arith, length-drop i out, filled_length p)) ∙ omega arith in
            let word : ℕ → ℤ = λ j. output b (part line₁ (126 - 2 * j) 81) in
            let made : new ≡ tabulate n word = words ∙ ap (λ m. tabulate m (λ j. output t.book.now (part line₁ (126 - 2 * j) 81))) part_length ∙ ap (λ x. tabulate n (λ j. output x (part line₁ (126 - 2 * j) 81))) of in
            let out₁ = part_all out i k new (ap length made ∙ length-tabulate n word ∙ omega arith) ∙ ap (overwrite out i) made in
            filled_more p history_length n few room line_e points_small (control ∙ ap (λ f. control_after f d n) fade_is) out₁ kept_e

  -- ---- after the last turn
  taps_length : (t : Taps) → t.book.now ≡ b → length t.taps.now ≡ (sizes_of b).decimation + 1
  taps_length t of = ap length t.of_book ∙ decimation_taps-length t.book.now (accepted t.book.now t.accepted) ∙ ap (λ x. (sizes_of x).decimation + 1) of

  module _ {d : Control} {line out : List ℤ} {i : ℕ} (p : Filled b store v out₀ d line out i) (all_made : i ≡ length out₀) where
    voice_is : {h : List ℤ} → h ≡ part line 128 81 → ◌≡◌ {A = Voice} (record { control = d; history = h }) (voice_after b store v (length out₀))
    voice_is e = ap₂ {C = Voice} (λ c h. record { control = c; history = h }) p.control (e ∙ end_history p history_length) ∙ ap (voice_after b store v) all_made

    words_are : out ≡ outputs b store v (length out₀)
    words_are =
        let w : List ℤ = outputs b store v (length out₀) in
        let all : length w ≡ length out₀ = length-outputs b store v (length out₀) in
        p.words ∙ paste_whole out₀ w i (all_made ∙ sym all) all

pub begin_line-requires : goal.begin_line-requires
begin_line-requires c = refl

pub loop-i-init : goal.loop-i-init
unfolding run_values
loop-i-init c =
    let l = c.begin_line.ensures in
    record { filled = filled_none c.args.source.now c.args.v.now c.args.out.now c.requires.accepted l.kept.1 l.line l.kept.0; counted = refl }

pub next_points-run-requires-clause-control : goal.next_points-run-requires-clause-control
next_points-run-requires-clause-control c = ready c.args.source.now c.args.v.now c.args.out.now c.requires.accepted c.begin_line.ensures.kept.1 c.loop-i.invariant.filled c.requires.top

pub write_outputs-requires-clause-small : goal.write_outputs-requires-clause-small
write_outputs-requires-clause-small c =
    points_small c.args.source.now c.args.v.now c.args.out.now c.requires.accepted c.begin_line.ensures.kept.1 c.loop-i.invariant.filled c.next_points-run.result.made c.next_points-run.ensures.points

pub overflow_add-values : goal.overflow_add-values
overflow_add-values c =
    let s = c.args.source.now in
    let v = c.args.v.now in
    let out = c.args.out.now in
    let h = c.begin_line.ensures.kept.1 in
    let made = c.next_points-run.result.made in
    let next = next_values s v out c.requires.accepted h c.loop-i.invariant.filled made c.next_points-run.ensures.points c.loop-i.invariant.counted c.next_points-run.ensures.made.3 in
    let room : c.loop-i.i + made ≤ length out = omega arith in
    omega (arith, next, values_high (F s v out c.requires.accepted h) v.control (c.loop-i.i + made), room, (fine s v out c.requires.accepted h).few)

pub loop-i-preserved : goal.loop-i-preserved
loop-i-preserved c =
    let s = c.args.source.now in
    let v = c.args.v.now in
    let out = c.args.out.now in
    let h = c.begin_line.ensures.kept.1 in
    let p = c.loop-i.invariant.filled in
    let made = c.next_points-run.result.made in
    let e = c.next_points-run.ensures.points in
    record {
      filled = more s v out c.requires.accepted h p made e (omega arith) (omega arith) c.of-decimation.result c.of-decimation.ensures c.next_points-run.ensures.made.2 c.write_outputs.ensures c.keep_newest.ensures;
      counted = next_values s v out c.requires.accepted h p made e c.loop-i.invariant.counted c.next_points-run.ensures.made.3;
    }

pub overflow_sub-reach : goal.overflow_sub-reach
overflow_sub-reach c =
    omega (arith, taps_length c.args.source.now c.args.v.now c.args.out.now c.requires.accepted c.begin_line.ensures.kept.1 c.of-decimation.result c.of-decimation.ensures)

pub block_multiplies-requires : goal.block_multiplies-requires
block_multiplies-requires c =
    let s = c.args.source.now in
    let v = c.args.v.now in
    let out = c.args.out.now in
    let h = c.begin_line.ensures.kept.1 in
    let size = sizes_bounded s.book.now (book s v out c.requires.accepted h) in
    let p = c.loop-i.invariant.filled in (
      omega (arith, s.laid_out.sizes.taps, size.taps_high),
      omega (arith, c.loop-i.invariant.counted, values_high (F s v out c.requires.accepted h) v.control c.loop-i.i, p.count, filled_length p),
      omega (arith, taps_length s v out c.requires.accepted h c.of-decimation.result c.of-decimation.ensures, size.decimation_high),
      omega (arith, filled_length p, (fine s v out c.requires.accepted h).few),
    )

pub returns : goal.returns
unfolding play_answer
returns c =
    let s = c.args.source.now in
    let v = c.args.v.now in
    let out = c.args.out.now in
    let h = c.begin_line.ensures.kept.1 in
    let p = c.loop-i.invariant.filled in
    let sizes = sizes_of s.book.now in
    let all_made : c.loop-i.i ≡ length out = omega (arith, filled_length p, p.count) in
    let values = c.loop-i.invariant.counted ∙ ap (run_values sizes.fade v.control) all_made in
    let reach : length c.of-decimation.result.taps.now - 1 ≡ sizes.decimation = omega (arith, taps_length s v out c.requires.accepted h c.of-decimation.result c.of-decimation.ensures) in
    let counted = c.block_multiplies.ensures ∙ block_is sizes v.control (length out) values s.laid_out.sizes.taps (filled_length p) reach in
    simp c.requires.accepted (ap₂ (λ x m. played 0 x m c.loop-i.out) (voice_is s v out c.requires.accepted h p all_made c.history_of-history.ensures) counted ∙ ap (played 0 _ _) (words_are s v out c.requires.accepted h p all_made))
