use Rattle.auc_run.proofs.ReplyLaws.{input_fails}
use Rattle.auc_run.proofs.mail.replies_of.Goals as goal

pub returns-in_err-bytes : goal.returns-in_err-bytes
returns-in_err-bytes g c = input_fails (g.R.Read.remaining c.args.reader.now) c.from_residual.result c.in_err-bytes.field-0.0 (λ e. c.in_err-bytes.ensures.many cc) c.from_residual.ensures.1
