use Rattle.std.proofs.Common.{◌++◌}
use Rattle.std.specs.Prelude.{codes}
use Rattle.std.specs.Fmt.{decimal}
use Rattle.auc_cert.proofs.WriteLaws.{begins_front, behind, cut}
use Rattle.auc_messages.specs.Names.{front_of}
use Rattle.auc_messages.proofs.writing.write_place.Goals as goal

pub returns-in_err-write_front : goal.returns-in_err-write_front
returns-in_err-write_front g c =
    let front = front_of c.args.name.now in
    let rest = codes ", line " ++ decimal c.args.place.now.line ++ codes ", column " ++ decimal c.args.place.now.column ++ codes ", \"" in
    cut c.from_residual.result (g.W.Write.contents c.args.writer.now) (g.W.Write.contents c.write_front.new.writer) (front ++ rest) c.from_residual.ensures.0
    (begins_front (g.W.Write.contents c.args.writer.now) (g.W.Write.contents c.write_front.new.writer) front rest c.in_err-write_front.ensures)

pub returns : goal.returns
returns g c =
    let front = front_of c.args.name.now in
    let rest = codes ", line " ++ decimal c.args.place.now.line ++ codes ", column " ++ decimal c.args.place.now.column ++ codes ", \"" in
    behind c.write_parts.result (g.W.Write.contents c.args.writer.now) (g.W.Write.contents c.write_front.new.writer) (g.W.Write.contents c.write_parts.new.writer) front rest c.in_ok-write_front.ensures c.write_parts.ensures
