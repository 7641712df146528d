use Rattle.std.proofs.Common.{◌++◌}
use Rattle.std.specs.Prelude.{codes}
use Rattle.auc_cert.proofs.WriteLaws.{begins_front, behind, cut}
use Rattle.auc_messages.specs.Names.{shown_name}
use Rattle.auc_messages.proofs.naming.write_front.Goals as goal

pub returns-in_err-write_whole : goal.returns-in_err-write_whole
returns-in_err-write_whole g c =
    let name = shown_name c.args.name.now in
    cut c.from_residual.result (g.W.Write.contents c.args.writer.now) (g.W.Write.contents c.write_whole.new.writer) (codes "auction: " ++ name) c.from_residual.ensures.0
    (begins_front (g.W.Write.contents c.args.writer.now) (g.W.Write.contents c.write_whole.new.writer) (codes "auction: ") name c.in_err-write_whole.ensures)

pub returns : goal.returns
returns g c =
    behind c.write_name.result (g.W.Write.contents c.args.writer.now) (g.W.Write.contents c.write_whole.new.writer) (g.W.Write.contents c.write_name.new.writer) (codes "auction: ") (shown_name c.args.name.now) c.in_ok-write_whole.ensures c.write_name.ensures
