use Rattle.std.proofs.Common.{refl}
use Rattle.auc_cert.specs.Text.{joined, numbered, number_line}
use Rattle.auc_cert.proofs.WriteLaws.{one_more, cut_in_line, cut}
use Rattle.auc_cert.proofs.writing.write_numbers.Goals as goal

pub loop-number-preserved : goal.loop-number-preserved
loop-number-preserved g c =
    one_more (number_line c.args.front.now) c.args.numbers.now c.loop-number.number-index c.loop-number.number-index 0 (g.W.Write.contents c.args.writer.now) (g.W.Write.contents c.loop-number.writer) (g.W.Write.contents c.write_number.new.writer)
    c.loop-number-test.true refl c.loop-number.invariant c.in_ok-write_number.ensures

pub returns-in_err-write_number : goal.returns-in_err-write_number
returns-in_err-write_number g c =
    cut c.from_residual.result (g.W.Write.contents c.args.writer.now) (g.W.Write.contents c.write_number.new.writer) (joined (numbered (number_line c.args.front.now) 0 c.args.numbers.now)) c.from_residual.ensures.0
    (cut_in_line (number_line c.args.front.now) c.args.numbers.now c.loop-number.number-index c.loop-number.number-index 0 (g.W.Write.contents c.args.writer.now) (g.W.Write.contents c.loop-number.writer) (g.W.Write.contents c.write_number.new.writer) c.loop-number-test.true refl c.loop-number.invariant c.in_err-write_number.ensures)
