-- `levels::writer::write_next` meets its contract: the level is lent as it lies in the store. Assumes nothing.
use Rattle.std.proofs.Common.{◌≡◌, ap, ◌∙◌, ◌-◌, length, take, drop}
use Rattle.std.proofs.lemmas.List.{drop-take, take_rest}
use Rattle.arith.specs.Lists.{part}
use Rattle.levels.proofs.writer.write_next.Goals as goal

pub next_level-requires-clause-small : goal.next_level-requires-clause-small
next_level-requires-clause-small c k =
    let levels = c.split_at_mut-levels.result.0.now in
    let level_is : take (length levels - c.args.start) (drop c.args.start levels) ≡ part c.args.store.now c.args.start c.args.words =
    take_rest levels c.args.start ∙ ap (drop c.args.start) c.split_at_mut-levels.ensures.front ∙ drop-take c.args.start c.args.words c.args.store.now in
    rw level_is (c.requires.small k)
