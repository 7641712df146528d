use Rattle.std.proofs.Common.{take}
use Rattle.std.specs.Io.KnownBytes.{Appends}
use Rattle.auc_script.specs.Replies.{reply_lines}
use Rattle.auc_script.proofs.replies.write_replies.Given as goal

abbrev pub invariant-loop-reply : goal.invariant-loop-reply
invariant-loop-reply g l = Appends (g.W.Write.contents l.fn.writer) (g.W.Write.contents l.writer) (reply_lines (take l.reply-index l.replies))
