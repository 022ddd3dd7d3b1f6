-- `refusals::history_wrong` meets its contract: a word in -2^29..2^29 is one of at most that size. Assumes nothing.
use Rattle.std.proofs.Common.{◌≡◌, rules, not, pos, negsuc, length, ap, ◌∙◌}
use Rattle.arith.specs.Lists.{at}
use Rattle.arith.specs.Tests.{every, within}
use Rattle.arith.proofs.Tests.{every_ext, within-abs}
use Rattle.refusals.specs.Refusals.{history_wrong}
use Rattle.refusals.proofs.history_wrong.Goals as goal

pub returns : goal.returns
unfolding history_wrong
returns c =
    let h = c.args.history in
    let whole : length h ≡ 81 = search rules in
    ap not (c.all_between.ensures ∙ ap (λ n. every n (λ k. within (negsuc 536870911) (pos 536870912) (at h k))) whole ∙ every_ext 81 (λ k l. within-abs 536870911 (at h k)))
