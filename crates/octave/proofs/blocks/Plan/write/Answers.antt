-- `Plan::write` meets its contract: a centre tap below 32768. Assumes nothing.
use Rattle.std.proofs.Common.{◌≡◌, ◌≤◌, List, length, false, ℤ, pos, ◌<ℤ◌}
use lib.Signed.{le_z}
use mir.Syntax.{w32}
use mir.Val.{of_z, to_z}
use Rattle.arith.specs.Lists.{at}
use Rattle.arith.proofs.Bits.{reads}
use Rattle.arith.proofs.Linear.{le_no}
use Rattle.book.specs.Check.{tap_sum}
use Rattle.book.proofs.Around.{tap_fits}
use Rattle.octave.proofs.blocks.Plan.write.Goals as goal

narrow : (h : List ℤ) → tap_sum h ≤ 32768 → 1 ≤ length h → le_z (pos 32768) (to_z w32 (of_z w32 (at h 0))) ≡ false → at h 0 <ℤ pos 32768
narrow h small some e = le_no (simp (reads, tap_fits h small 0 some) at e)

pub write_block-requires-clause-narrow : goal.write_block-requires-clause-narrow
write_block-requires-clause-narrow c = let t = c.args.self.now.taps in narrow t.words.now t.bounded t.some c.if-taps-ge32768.false

pub write_block-requires-in-OddTaps-clause-narrow : goal.write_block-requires-in-OddTaps-clause-narrow
write_block-requires-in-OddTaps-clause-narrow c = let t = c.args.self.now.taps in narrow t.words.now t.bounded t.some c.if-taps-ge32768.false
