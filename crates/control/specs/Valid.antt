-- A valid control: what numbers 13 to 16 leave. Inner functions ask for it; every call keeps it.
use Rattle.std.specs.Prelude.{◌≡◌, ℕ, ◌+◌, ◌^◌, ◌≤◌, ◌<◌}
use Rattle.control.specs.declared.Glide.{Glide}
use Rattle.control.specs.declared.Control.{Control}

-- a glide under way: its rates are those of top level T, and an output of it is left
pub record GlideValid (T : ℕ) (g : Glide) : Type 0 where
  pub start_low : 2 ^ 23 ≤ g.start
  pub start_high : g.start < 2 ^ (28 + T)
  pub target_low : 2 ^ 23 ≤ g.target
  pub target_high : g.target < 2 ^ (28 + T)
  pub count_high : g.count ≤ 65536
  pub done_high : g.done < g.count

-- a control that none of 13 to 16 refuses, for fades of F points
pub record Valid (F : ℕ) (c : Control) : Type 0 where
  pub top_high : c.top ≤ 4
  pub from_high : c.fade.from ≤ c.top
  pub to_high : c.fade.to ≤ c.top
  pub step_low : c.fade.step < F
  pub resting : c.fade.step ≡ 0 → c.fade.from ≡ c.fade.to
  pub fading : (c.fade.step ≡ 0 → ⊥) → c.fade.from ≡ c.fade.to → ⊥
  pub rate_low : 2 ^ 23 ≤ c.rate
  pub rate_high : c.rate < 2 ^ (28 + c.top)
  pub glide_valid : (c.glide.count ≡ 0 → ⊥) → GlideValid c.top c.glide
  pub position_high : c.position ≤ 2 ^ 60
