use Rattle.auc_mail.specs.declared.call.Reply.TheVariants.{Posted}
use Rattle.auc_cert.proofs.WriteLaws.{cut_in_one, cut}
use Rattle.auc_script.specs.Replies.{reply_line, reply_lines}
use Rattle.auc_script.proofs.replies.write_replies.Goals as goal

pub returns-in_err-write_reply : goal.returns-in_err-write_reply
returns-in_err-write_reply g c =
    cut c.from_residual.result (g.W.Write.contents c.args.writer.now) (g.W.Write.contents c.write_reply.new.writer) (reply_lines c.args.replies.now) c.from_residual.ensures.0
    (cut_in_one reply_line c.args.replies.now c.loop-reply.reply-index (Posted 0) (g.W.Write.contents c.args.writer.now) (g.W.Write.contents c.loop-reply.writer) (g.W.Write.contents c.write_reply.new.writer) c.loop-reply-test.true c.loop-reply.invariant c.in_err-write_reply.ensures)
