-- `player::outputs::fill_within` meets its contract. Assumes nothing.
use mathlib.Core.Path.{◌≡◌, refl, sym, subst}
use mathlib.Core.List.{List}
use Prim.Native.Nat.{◌*◌, ◌<◌}
use native.Mathlib.Omega.{arith}
use lib.IntN.{pos}
use lib.ListN.{length-replicate}
use Rattle.arith.proofs.Parts.{zeros_every}
use Rattle.player.proofs.Accepted.{play_accepted}
use Rattle.player.proofs.outputs.fill_within.Goals as goal

pub layout_of-layout-requires : goal.layout_of-layout-requires
layout_of-layout-requires g c =
    let fine = play_accepted c.args.book.now c.args.store.now c.args.v.now _ c.requires.accepted in
    (fine.book_accepted, fine.store_accepted)

pub whole_as_slice-stage_rows : goal.whole_as_slice-stage_rows
whole_as_slice-stage_rows g c = omega (arith, c.requires.room.1)

pub shared_whole_as_slice-source : goal.shared_whole_as_slice-source
shared_whole_as_slice-source g c = omega (arith, c.requires.room.1)

pub invariant_of-source : goal.invariant_of-source
invariant_of-source g c =
    let fine = play_accepted c.args.book.now c.args.store.now c.args.v.now _ c.requires.accepted in
    record { laid_out = rw fine.top c.layout_of-layout.ensures; tops = fine.valid.top_high; staged = c.stage_rows-positive.ensures }

pub stage_rows-positive-requires : goal.stage_rows-positive-requires
stage_rows-positive-requires g c =
    let o = c.layout_of-layout.ensures.sizes in
    record {
      accepted = o.book_accepted;
      sizes = (o.phases, o.taps);
      room = rw (o.phases, o.taps, length-replicate) (omega (arith, c.requires.room.0));
      zeros = zeros_every (λ x. x ≡ pos 0) refl g.row.ROOM;
    }
