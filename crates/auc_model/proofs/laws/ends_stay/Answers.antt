use Rattle.auc_model.proofs.Ends.{end_schedule, all_schedule}
use Rattle.auc_model.proofs.laws.ends_stay.Goals as goal

pub returns : goal.returns
returns c = record {
  stays = (λ g w v ts e run h. end_schedule g w ts v e run h);
  all = (λ g v r h. all_schedule g r.start r.turns v r.leads (λ e. absurd (cc (r.starts.no_end, e))) h);
}
