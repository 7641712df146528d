use Rattle.std.proofs.Common.{◌∙◌, sym}
use Rattle.auc_threads.proofs.PostingLaws.{ends_err, ends_ok}
use Rattle.auc_threads.proofs.stopping.post_stop.Goals as goal

pub returns-then-is_err : goal.returns-then-is_err
returns-then-is_err g c = ends_err _ _ _ _ c.args.why c.post.result c.close.result (sym c.is_err.ensures.value ∙ c.if-is_err.true) c.post.ensures c.close.ensures

pub returns-else-is_err : goal.returns-else-is_err
returns-else-is_err g c = ends_ok _ _ _ c.args.why c.post.result (sym c.is_err.ensures.value ∙ c.if-is_err.false) c.post.ensures
