-- `report::Report::read_bytes` meets its contract. Assumes nothing.
use native.Mathlib.Omega.{arith}
use Rattle.report.proofs.Bytes.{none_read, one_read, all_read}
use Rattle.report.proofs.Report.read_bytes.Goals as goal

pub loop-byte-init : goal.loop-byte-init
loop-byte-init c = none_read _ _ _ _

pub read_byte-report-requires : goal.read_byte-report-requires
read_byte-report-requires c = omega (arith, c.loop-byte.invariant.short)

pub loop-byte-preserved : goal.loop-byte-preserved
loop-byte-preserved c = one_read _ _ _ _ c.loop-byte.byte-index _ _ (omega arith) (omega arith) c.loop-byte.invariant c.read_byte-report.ensures

pub returns : goal.returns
returns c = all_read _ _ _ _ c.loop-byte.byte-index _ _ (omega arith) (omega arith) c.loop-byte.invariant
