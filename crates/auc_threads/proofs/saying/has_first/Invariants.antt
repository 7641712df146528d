use Rattle.std.proofs.Common.{◌≡◌, false, take, All}
use Rattle.auc_threads.specs.Posting.{is_to_hub}
use Rattle.auc_threads.proofs.saying.has_first.Given as goal

abbrev pub invariant-loop-out : goal.invariant-loop-out
invariant-loop-out l = All (λ o. is_to_hub o.to ≡ false) (take l.out-index l.said)
