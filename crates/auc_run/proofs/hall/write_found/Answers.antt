use Rattle.std.proofs.Common.{◌++◌, length}
use Rattle.std.specs.Prelude.{codes}
use Rattle.auc_cert.specs.Text.{assign_line, joined, numbered}
use Rattle.auc_cert.proofs.WriteLaws.{begins_front, behind, cut}
use Rattle.auc_cert.specs.Writing.{counted}
use Rattle.auc_run.proofs.hall.write_found.Goals as goal

pub returns-in_err-write_counted-in-Full : goal.returns-in_err-write_counted-in-Full
returns-in_err-write_counted-in-Full g c =
    let front = counted (codes "full ") (length c.in-Full.choice) in
    let picks = joined (numbered assign_line 0 c.in-Full.choice) in
    rw c.in-Full.is (cut c.from_residual.result (g.W.Write.contents c.args.writer.now) (g.W.Write.contents c.write_counted.new.writer) (front ++ picks) c.from_residual.ensures.0
    (begins_front (g.W.Write.contents c.args.writer.now) (g.W.Write.contents c.write_counted.new.writer) front picks (rw c.as_slice-choice.ensures at c.in_err-write_counted-in-Full.ensures)))

pub returns-in_ok-write_counted-in-Full : goal.returns-in_ok-write_counted-in-Full
returns-in_ok-write_counted-in-Full g c =
    let front = counted (codes "full ") (length c.in-Full.choice) in
    let picks = joined (numbered assign_line 0 c.in-Full.choice) in
    rw c.in-Full.is (behind c.write_picks.result (g.W.Write.contents c.args.writer.now) (g.W.Write.contents c.write_counted.new.writer) (g.W.Write.contents c.write_picks.new.writer) front picks
    (rw c.as_slice-choice.ensures at c.in_ok-write_counted-in-Full.ensures) (rw c.as_slice-choice.ensures at c.write_picks.ensures))
