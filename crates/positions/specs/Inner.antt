-- Definitions that only inner functions' contracts cite: no rule of document 01, but a step of the code that computes one.
use Rattle.std.specs.Prelude.{cond, ◌≡◌, ℕ, ◌+◌, ◌*◌, ◌^◌, ◌≤◌, ◌<◌, eqb, ℤ, pos, nat_abs, ◌+ℤ◌, ◌-ℤ◌, ◌*ℤ◌, ◌≤ℤ◌, ◌<ℤ◌}
use Rattle.arith.specs.Floor.{floor_div}
use Rattle.control.specs.declared.Control.{Control}
use Rattle.control.specs.declared.Fade.{Fade}
use Rattle.control.specs.declared.Glide.{Glide}
use Rattle.control.specs.declared.Plan.{Plan}
use Rattle.positions.specs.declared.glide.Quotient.{Quotient}
use Rattle.control.specs.Moves.{glide_rate, glide_after}

-- a glide under way whose rates are below 2^32
pub record GlideFits (g : Glide) : Type 0 where
  pub start_high : g.start < 2 ^ 32
  pub target_high : g.target < 2 ^ 32
  pub count_high : g.count ≤ 65536
  pub done_high : g.done < g.count

-- a control whose rates are below 2^32
pub record ControlFits (c : Control) : Type 0 where
  pub rate_high : c.rate < 2 ^ 32
  pub glide_fits : (c.glide.count ≡ 0 → ⊥) → GlideFits c.glide

-- z / c: the floor, and the rest
unfoldable pub quotient : ℤ → ℕ → Quotient
quotient z c = record { floor = floor_div z c; rest = nat_abs (z -ℤ pos c *ℤ floor_div z c) }

-- R0 × c + (R1 − R0) × j, of which the rate of output j is the floor by c
unfoldable pub glide_sum : Glide → ℕ → ℤ
glide_sum g j = pos g.start *ℤ pos g.count +ℤ (pos g.target -ℤ pos g.start) *ℤ pos j

-- n outputs are left of a glide, if there is one
abbrev pub left_of : Glide → ℕ → Type 0
left_of g n = (g.count ≡ 0 → ⊥) → g.done + n ≤ g.count

-- the rate of output i from now, and the glide after it
unfoldable pub rate_at : Control → ℕ → ℕ
rate_at c i = cond (eqb c.glide.count 0) c.rate (glide_rate c.glide (c.glide.done + i))

unfoldable pub glide_at : Glide → ℕ → Glide
glide_at g i = cond (eqb g.count 0) g (glide_after g (g.done + i))

-- start + slope × i in 2^-23 is the rate of output i, for each of the next 64 up to the end of the glide
pub record RatesOf (c : Control) (start slope : ℤ) : Type 0 where
  pub start_size : nat_abs start ≤ 2 ^ 56
  pub slope_size : nat_abs slope ≤ 2 ^ 56
  pub low : (i : ℕ) → i ≤ 64 → left_of c.glide i → pos (2 ^ 23 * rate_at c i) ≤ℤ (start +ℤ slope *ℤ pos i)
  pub high : (i : ℕ) → i ≤ 64 → left_of c.glide i → (start +ℤ slope *ℤ pos i) <ℤ pos (2 ^ 23 * rate_at c i + 2 ^ 23)

-- a control after i outputs that left the fade f: after none R is as it was, on a glide too
unfoldable pub control_at : Control → Fade → ℕ → ℕ → Control
control_at c f i P =
    let rate = cond (eqb i 0) c.rate (rate_at c i) in
    record { top = c.top; fade = f; rate = rate; glide = glide_at c.glide i; position = P }

-- the fade, if p belongs to one, has the points of n outputs from p on
abbrev pub left_of_fade : ℕ → Plan → ℕ → Type 0
left_of_fade F p n = (p.step ≡ 0 → ⊥) → p.step + 2 * n ≤ F + 1
