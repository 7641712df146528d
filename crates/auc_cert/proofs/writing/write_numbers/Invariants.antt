use Rattle.std.proofs.Common.{take}
use Rattle.std.specs.Io.KnownBytes.{Appends}
use Rattle.auc_cert.specs.Text.{numbered, joined, number_line}
use Rattle.auc_cert.proofs.writing.write_numbers.Given as goal

abbrev pub invariant-loop-number : goal.invariant-loop-number
invariant-loop-number g l = Appends (g.W.Write.contents l.fn.writer) (g.W.Write.contents l.writer) (joined (numbered (number_line l.front) 0 (take l.number-index l.numbers)))
