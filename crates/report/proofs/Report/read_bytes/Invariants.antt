-- `report::Report::read_bytes` meets its contract. The loop's invariant: the bytes before the index are read. Assumes nothing.
use Prim.Native.Nat.{◌*◌}
use lib.ListN.{take}
use Rattle.report.specs.Inner.{Prints, read_bytes}
use Rattle.report.proofs.Report.read_bytes.Given as goal

abbrev pub invariant-loop-byte : goal.invariant-loop-byte
invariant-loop-byte l =
    Prints (read_bytes l.lent.book.now l.lent.store.now l.initial.report (take l.byte-index l.bytes)) (96 * l.byte-index) l.initial.text.bytes l.report l.text.bytes
