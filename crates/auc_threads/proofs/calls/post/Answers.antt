use Rattle.auc_threads.proofs.PostingLaws.{at_one}
use Rattle.auc_threads.proofs.calls.post.Goals as goal

pub returns : goal.returns
returns g c = at_one _ _ _ c.args.out c.post-posted.result c.step_after.result (rw (← c.box_of.ensures) c.post-posted.ensures.seat) c.step_after.ensures
