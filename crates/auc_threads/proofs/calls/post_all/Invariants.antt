use Rattle.std.proofs.Common.{take}
use Rattle.auc_threads.specs.declared.calls.Step.{Step}
use Rattle.auc_threads.specs.Posting.{PostsAt}
use Rattle.auc_threads.proofs.calls.post_all.Given as goal

abbrev pub invariant-loop-out : goal.invariant-loop-out
invariant-loop-out g l = PostsAt g.N.MailBrand.room l.fn.seat (take l.out-index l.letters) l.seat Step.On
