use Rattle.auc_model.proofs.Theorems.{of_every_schedule, holders_slack, counted_le, everyone_holds}
use Rattle.auc_model.proofs.laws.every_schedule.Goals as goal

pub returns : goal.returns
returns c = record {
  copies_low = (λ g v r. (of_every_schedule g v r).copies_low);
  held_once = (λ g v r. (of_every_schedule g v r).held_once);
  slack = holders_slack;
  counted = (λ g v r. (counted_le g v r).0);
  held = (λ g v r. (counted_le g v r).1);
  everyone = everyone_holds;
}
