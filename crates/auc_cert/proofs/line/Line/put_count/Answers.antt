use Rattle.std.proofs.Common.{length, arith, ap}
use Rattle.std.proofs.lemmas.Fmt.{length-decimal-le}
use Rattle.std.proofs.lemmas.List.{length-drop}
use Rattle.auc_cert.proofs.line.Line.put_count.Goals as goal

pub write_digits-self-inside-requires : goal.write_digits-self-inside-requires
write_digits-self-inside-requires c =
    let long = length-decimal-le 20 c.args.number (omega arith) (omega arith) c.ranges.number.fits in
    (omega (arith, long, length-drop c.self.inside.start c.self.inside.bytes, ap length c.self.view_is), omega arith)

pub returns-clause-room : goal.returns-clause-room
returns-clause-room c =
    let long = length-decimal-le 20 c.args.number (omega arith) (omega arith) c.ranges.number.fits in
    let w = c.write_digits-self-inside in
    omega (arith, long, length-drop c.self.inside.start c.self.inside.bytes, ap length c.self.view_is, length-drop w.result w.new.buf, w.ensures.start)
