-- `book::half_band` meets its contract: item e of the chain is tap 2 + e × 2. Assumes nothing.
use Rattle.std.proofs.Common.{◌≡◌, ℕ, ◌+◌, ◌*◌, Bool, true, false, length, pos, refl, ◌∙◌, arith}
use native.Mathlib.Decide.{dec_lt}
use Rattle.arith.specs.Lists.{at}
use Rattle.arith.proofs.Lists.{at_outside}
use Rattle.book.specs.Inner.{HalfBand}
use Rattle.book.proofs.half_band.Goals as goal
use Rattle.book.proofs.half_band.Goals.{After-all}

-- where each item passed
holds : (c : After-all) → c.all.result ≡ true → HalfBand c.args.taps.now
holds c h e =
    elim (dec_lt (2 * e + 2) (length c.args.taps.now)) [
      | yes l ↦
          let p = c.all.ensures.runs.0 in
          let s = c.step_by.ensures.runs p p.seen c.all.ensures.runs.1 in
          let k = c.skip.ensures.runs s.0 s.0.seen s.1 in
          let i = c.iter.ensures.runs k.0 k.0.seen in
          let m = rw h at c.all.ensures.runs.2 in
          let one : p.at e ≡ s.0.at (e * 2) = s.2.4 e in
          let two : s.0.at (e * 2) ≡ k.0.at (2 + e * 2) = k.2.3 (e * 2) in
          grind (arith, one, two, i, m, k.2.1, k.2.0, s.2.0, s.2.2, s.2.3)
      | no n ↦ at_outside c.args.taps.now (2 * e + 2) (omega arith)
    ]

-- where one did not
found : (c : After-all) → HalfBand c.args.taps.now → (t : Bool) → c.all.result ≡ t → t ≡ true
found c h true e = refl
found c h false e =
    let p = c.all.ensures.runs.0 in
    let s = c.step_by.ensures.runs p p.seen c.all.ensures.runs.1 in
    let k = c.skip.ensures.runs s.0 s.0.seen s.1 in
    let i = c.iter.ensures.runs k.0 k.0.seen in
    let m = rw e at c.all.ensures.runs.2 in
    let one : (n : ℕ) → p.at n ≡ k.0.at (2 + n * 2) = λ n. s.2.4 n ∙ k.2.3 (n * 2) in
    let zero : (n : ℕ) → at c.args.taps.now (2 + n * 2) ≡ pos 0 = λ n. let place : 2 * n + 2 ≡ 2 + n * 2 = omega arith in rw place at (h n) in
    let item = m (λ a r f' l. refl) in
    let passed = rw (one item.0) at item.2 in
    let none : ⊥ = grind (arith, i, passed, zero item.0) in
    absurd none

pub returns : goal.returns
returns c = (holds c, λ h. found c h c.all.result refl)
