-- `test_setting::Setting::new` meets its contract. Assumes nothing.
use mathlib.Core.Path.{ap, ap₂, ◌∙◌}
use mathlib.Core.List.{List}
use Prim.Native.Nat.{ℕ}
use lib.Ieee.{of_bits, round}
use lib.IntN.{ℤ}
use Rattle.player.specs.declared.Voice.{Voice}
use Rattle.player.specs.Calls.{answer_of}
use Rattle.std.proofs.Common.{◌≡◌, arith}
use Rattle.std.proofs.lemmas.Grind.{common_steps}
use Rattle.test_setting.specs.declared.Setting.{Setting}
use Rattle.test_setting.specs.Setting.{test_book, test_setting}
use Rattle.test_setting.proofs.Setting.new.Goals as goal

pub returns : goal.returns
unfolding test_setting of_bits round
returns c =
    let built = c.build_store-state.ensures in
    let made : List ℤ → Voice → ℕ → Setting = λ store voice state. record { book = test_book; store = store; voice = voice; state = state } in
    let opened : c.unwrap_or_else.result ≡ (answer_of c.«open».result).voice = grind (arith, common_steps) in
    ap₂ (λ store state. made store c.unwrap_or_else.result state) built.built built.state ∙ ap (λ v. made _ v _) (opened ∙ ap (λ a. a.voice) c.«open».ensures)
