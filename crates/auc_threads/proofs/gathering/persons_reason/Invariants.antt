use Rattle.std.proofs.Common.{◌≡◌, map, take, None}
use Rattle.auc_threads.specs.Worked.{first_some}
use Rattle.auc_threads.proofs.gathering.persons_reason.Given as goal

abbrev pub invariant-loop-work : goal.invariant-loop-work
invariant-loop-work g l = first_some (map (λ w. w.why) (take l.work-index l.works)) ≡ None
