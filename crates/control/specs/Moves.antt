-- How control moves (document 01, "Rate and position" and "One output"): opening, orders, seek, the glide, the fade and the position.
-- Whole numbers, moved by floors only; no point is looked at.
use Rattle.std.specs.Prelude.{cond, ℕ, suc, eqb, pos, nat_abs, ◌+ℤ◌, ◌-ℤ◌, ◌*ℤ◌}
use Rattle.arith.specs.Floor.{floor_div}
use Rattle.control.specs.declared.Glide.{Glide}
use Rattle.control.specs.declared.Fade.{Fade}
use Rattle.control.specs.declared.Control.{Control}
use Rattle.control.specs.declared.Plan.{Plan}
use Rattle.control.specs.Rate.{octave_level, asked_level, advance}

-- ---- glide and fade at rest

abbrev pub no_glide : Glide
no_glide = record { start = 0; target = 0; count = 0; done = 0 }

abbrev pub no_fade : ℕ → Fade
no_fade level = record { from = level; to = level; step = 0 }

-- ---- opening, orders and seek: the fields that each rule names

-- a fresh voice's control: it opens at the level of its rate's octave
unfoldable pub fresh_control : ℕ → ℕ → Control
fresh_control T R = record { top = T; fade = no_fade (octave_level R); rate = R; glide = no_glide; position = 0 }

-- a jump sets R, and sets c, j, R0 and R1 to 0
unfoldable pub jumped : Control → ℕ → Control
jumped c R = record { top = c.top; fade = c.fade; rate = R; glide = no_glide; position = c.position }

-- a glide order sets R0, R1, c and j = 0, and R stays
unfoldable pub gliding : Control → ℕ → ℕ → Control
gliding c R₁ count = record {
  top = c.top;
  fade = c.fade;
  rate = c.rate;
  glide = record { start = c.rate; target = R₁; count = count; done = 0 };
  position = c.position;
}

-- seek sets P only
unfoldable pub sought : Control → ℕ → Control
sought c P = record { top = c.top; fade = c.fade; rate = c.rate; glide = c.glide; position = P }

-- ---- the glide

-- output j = 1..c of a glide has rate R0 + floor((R1 − R0) × j / c)
unfoldable pub glide_rate : Glide → ℕ → ℕ
glide_rate g j = nat_abs (pos g.start +ℤ floor_div ((pos g.target -ℤ pos g.start) *ℤ pos j) g.count)

-- a glide after its output j: the last sets the four to 0
unfoldable pub glide_after : Glide → ℕ → Glide
glide_after g j = cond (eqb j g.count) no_glide (record { start = g.start; target = g.target; count = g.count; done = j })

-- before an output's points: one output more of the glide
unfoldable pub move_glide : Control → Control
move_glide c =
    let g = c.glide in
    let j = suc g.done in
    cond (eqb g.count 0) c (record { top = c.top; fade = c.fade; rate = glide_rate g j; glide = glide_after g j; position = c.position })

-- ---- the fade

-- where a point's fade goes: on to its new level if one runs, else to the level asked from the current one. A rate change during a fade is
-- looked at when it has ended, from the level that has become current.
unfoldable pub fade_target : Control → ℕ
fade_target c = cond (eqb c.fade.step 0) (asked_level c.fade.from c.rate) c.fade.to

-- a point's plan: a fade to the asked level begins where none runs and that level differs from the current one; in a fade i grows by 1
unfoldable pub point_plan : Control → Plan
point_plan c =
    let new = fade_target c in
    let step = cond (eqb c.fade.from new) 0 (suc c.fade.step) in
    record { old = c.fade.from; new = new; step = step; position = c.position }

-- when i reaches F, the new level is current and i is 0 again
unfoldable pub fade_after : ℕ → Plan → Fade
fade_after F p = cond (eqb p.step F) (no_fade p.new) (record { from = p.old; to = p.new; step = p.step })

-- after a point: the fade moved on, and P advanced
unfoldable pub move_point : ℕ → Control → Control
move_point F c = record {
  top = c.top;
  fade = fade_after F (point_plan c);
  rate = c.rate;
  glide = c.glide;
  position = advance c.position c.rate;
}

-- after an output: the glide, then two points
unfoldable pub move_output : ℕ → Control → Control
move_output F c = move_point F (move_point F (move_glide c))
