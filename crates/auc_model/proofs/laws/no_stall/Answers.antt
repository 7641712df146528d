use Rattle.auc_model.proofs.Still.{still_ended}
use Rattle.auc_model.proofs.Rests.{rests_ended}
use Rattle.auc_model.proofs.laws.no_stall.Goals as goal

pub returns : goal.returns
returns c = record {
  still = (λ g v some r. still_ended g r.start v r.turns r.lawful some r.starts r.leads);
  rests = (λ g v some r. rests_ended g r.start v r.turns r.lawful some r.starts r.leads);
}
