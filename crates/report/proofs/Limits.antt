-- Numbers past a call's limits are refused alike, whatever they are: a call may be made with a number that is kept up to a cap. Assumes nothing.
use mathlib.Core.Path.{◌≡◌, refl, sym, ◌∙◌}
use mathlib.Core.Bool.{Bool, true, false, cond, not, ◌&&◌}
use Prim.Native.Nat.{ℕ, ◌+◌, ◌*◌, ◌^◌, ◌≤◌, ◌<◌, min}
use native.Mathlib.Nat.{mul-le-mul_right}
use native.Mathlib.Omega.{arith}
use lib.Dec.{T, eqb, leb}
use lib.Ieee.{Float, nan, inf, fin, binary32, up, down, le, round}
use lib.Ieee.Order.{round_mono}
use lib.Ieee.Positive.{above_of_le, le→cross}
use lib.IntN.{pos}
use lib.Pow.{pow_mono}
use borrow.Author.Tests.{le-ltb, lt-ltb, ne_eqb}
use Rattle.refusal.specs.Number.{refuse, ◌otherwise◌}
use Rattle.refusal.proofs.Numbers.{none_second}
use Rattle.control.specs.declared.Order.{Order}
use Rattle.control.specs.declared.Order.TheVariants.{Jump as JumpTo, Glide as GlideTo}
use Rattle.control.specs.Rate.{rate_in_range}
use Rattle.control.specs.Orders.{ordered}
use Rattle.player.specs.declared.Voice.{Voice}
use Rattle.player.specs.Calls.{answer, order_answer, seek_answer}
use Rattle.refusals.specs.Refusals.{point_bound, glide_count_wrong, position_wrong, levels_wrong, late_number, order_input_number, order_number, seek_number}
use Rattle.refusals.proofs.Valid.{levels_right}
use Rattle.drive_text.proofs.Caps.{by_cap}
use Rattle.report.specs.Report.{rate}

-- ---- rates

-- 32 and above is no rate for T up to 4
not_in_range : (r : Float) (top : ℕ) → top ≤ 4 → T (le (fin false 1 (pos 5)) r) → rate_in_range r top ≡ false
unfolding rate_in_range
not_in_range nan top h l = refl
not_in_range (inf s) top h l = refl
not_in_range (fin true m e) top h l = refl
not_in_range (fin false m e) top h l =
    let high : 1 * 32 * down e ≤ m * up e * 1 = le→cross (fin false 1 (pos 5)) (fin false m e) tt (above_of_le (fin false 1 (pos 5)) (fin false m e) tt l) l in
    let k : top + 1 ≤ 5 = omega arith in
    let p : 2 ^ (top + 1) * down e ≤ 2 ^ 5 * down e = mul-le-mul_right (down e) (pow_mono k) in
    let q : 2 ^ (top + 1) * down e ≤ m * up e = omega arith in
    none (leb (down e) (m * up e * 16)) (le-ltb (m * up e) (2 ^ (top + 1) * down e) q)
  where
    none : (t : Bool) {s : Bool} → s ≡ false → (t && s) ≡ false
    none true p = p
    none false p = refl

rate_high : (a top : ℕ) → 8192 ≤ a → top ≤ 4 → rate_in_range (rate a) top ≡ false
unfolding round
rate_high a top h l = not_in_range (rate a) top l (round_mono binary32 8192 256 a 256 (omega arith) (omega arith) (omega arith))

-- ---- orders

-- a number that is given leaves the voice as it came
number_given : (v w : Voice) (n : ℕ) → (n ≡ 0 → ⊥) → answer n (cond (eqb n 0) w v) ≡ answer n v
number_given v w n h = simp (ne_eqb n 0 h)

module _ (v : Voice) where
  -- the number of an order by its input number
  abbrev number_by : Bool → ℕ → ℕ
  number_by wrong n = refuse 13 wrong otherwise late_number v.control point_bound v.history otherwise n

  -- an order whose input number is given
  order-refused : (o : Order) (n : ℕ) → (n ≡ 0 → ⊥) → (v.control.top ≤ 4 → order_input_number v.control.top o ≡ n)
      → order_answer v o ≡ answer (number_by (levels_wrong v.control) n) v
  unfolding order_answer order_number refuse ◌otherwise◌
  order-refused o n h given = go (levels_wrong v.control) refl
    where
      moved : Voice
      moved = record { control = ordered v.control o; history = v.history }

      go : (w : Bool) → levels_wrong v.control ≡ w
          → (let m = number_by w (order_input_number v.control.top o) in answer m (cond (eqb m 0) moved v)) ≡ answer (number_by w n) v
      go true e = refl
      go false e = rw (given (levels_right v.control e).0) (number_given v moved (late_number v.control point_bound v.history otherwise n) (λ z. h (none_second (late_number v.control point_bound v.history) n z)))

  orders_alike : (o p : Order) (n : ℕ) → (n ≡ 0 → ⊥)
      → (v.control.top ≤ 4 → order_input_number v.control.top o ≡ n) → (v.control.top ≤ 4 → order_input_number v.control.top p ≡ n)
      → order_answer v o ≡ order_answer v p
  orders_alike o p n h x y = order-refused o n h x ∙ sym (order-refused p n h y)

-- ---- kept numbers

jump_number : (a top : ℕ) → 8192 ≤ a → top ≤ 4 → order_input_number top (JumpTo (rate a)) ≡ 10
unfolding order_input_number refuse
jump_number a top h l = simp (rate_high a top h l)

glide_number : (a c top : ℕ) → 8192 ≤ a → top ≤ 4 → order_input_number top (GlideTo (rate a) c) ≡ 10
unfolding order_input_number refuse ◌otherwise◌
glide_number a c top h l = simp (rate_high a top h l)

count_number : (r : Float) (c top : ℕ) → 65536 < c → order_input_number top (GlideTo r c) ≡ cond (rate_in_range r top) 11 10
unfolding order_input_number glide_count_wrong refuse ◌otherwise◌
count_number r c top h = simp (ne_eqb c 0 (λ (e : c ≡ 0). omega arith), lt-ltb 65536 c h) (go (rate_in_range r top))
  where
    go : (t : Bool) → (cond (not t) 10 0 otherwise 11) ≡ cond t 11 10
    go true = refl
    go false = refl

module _ (v : Voice) where
  pub jump_kept : (a cap : ℕ) → 8192 ≤ cap → order_answer v (JumpTo (rate (min a cap))) ≡ order_answer v (JumpTo (rate a))
  jump_kept a cap h = by_cap (λ n. order_answer v (JumpTo (rate n))) a cap
      (λ l. orders_alike v (JumpTo (rate cap)) (JumpTo (rate a)) 10 (λ z. omega arith) (jump_number cap v.control.top h) (jump_number a v.control.top (omega arith)))

  rate-kept : (a c cap : ℕ) → 8192 ≤ cap → order_answer v (GlideTo (rate (min a cap)) c) ≡ order_answer v (GlideTo (rate a) c)
  rate-kept a c cap h = by_cap (λ n. order_answer v (GlideTo (rate n) c)) a cap
      (λ l. orders_alike v (GlideTo (rate cap) c) (GlideTo (rate a) c) 10 (λ z. omega arith) (glide_number cap c v.control.top h) (glide_number a c v.control.top (omega arith)))

  count_kept : (r : Float) (c cap : ℕ) → 65536 < cap → order_answer v (GlideTo r (min c cap)) ≡ order_answer v (GlideTo r c)
  count_kept r c cap h = by_cap (λ n. order_answer v (GlideTo r n)) c cap
      (λ l. orders_alike v (GlideTo r cap) (GlideTo r c) (cond (rate_in_range r v.control.top) 11 10) (some (rate_in_range r v.control.top)) (λ t. count_number r cap v.control.top h) (λ t. count_number r c v.control.top (omega arith)))
    where
      some : (t : Bool) → cond {A = ℕ} t 11 10 ≡ 0 → ⊥
      some true z = omega arith
      some false z = omega arith

  pub glide_kept : (a c cap countCap : ℕ) → 8192 ≤ cap → 65536 < countCap → order_answer v (GlideTo (rate (min a cap)) (min c countCap)) ≡ order_answer v (GlideTo (rate a) c)
  glide_kept a c cap countCap h l = rate-kept a (min c countCap) cap h ∙ count_kept (rate a) c countCap l

  seek-refused : (p : ℕ) → 2 ^ 60 < p → seek_answer v p ≡ answer (number_by v (levels_wrong v.control) 12) v
  unfolding seek_answer seek_number position_wrong refuse
  seek-refused p l = rw (lt-ltb (2 ^ 60) p l) (number_given v _ (number_by v (levels_wrong v.control) 12) (λ z. let y : 12 ≡ 0 = none_second _ 12 (none_second _ _ z) in omega arith))

  pub seek-kept : (p cap : ℕ) → 2 ^ 60 < cap → seek_answer v (min p cap) ≡ seek_answer v p
  seek-kept p cap h = by_cap (seek_answer v) p cap (λ l. seek-refused cap h ∙ sym (seek-refused p (omega arith)))
