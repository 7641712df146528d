use Rattle.auc_answers.proofs.FoundLaws.{AreFound}
use Rattle.auc_answers.proofs.picks.picks_of_holders.Given as goal

abbrev pub invariant-loop-holder : goal.invariant-loop-holder
invariant-loop-holder l = AreFound l.problem l.holders l.holder-index l.found.items
