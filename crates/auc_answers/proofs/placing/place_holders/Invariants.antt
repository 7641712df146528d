use Rattle.auc_hall.specs.Partial.{IsFor}
use Rattle.auc_answers.proofs.PlacedLaws.{ArePlaced}
use Rattle.auc_answers.proofs.placing.place_holders.Given as goal

abbrev pub invariant-loop-object : goal.invariant-loop-object
invariant-loop-object l = record {
  made : IsFor l.rows l.partial;
  placed : ArePlaced l.problem l.holders l.object l.partial.choice;
}
