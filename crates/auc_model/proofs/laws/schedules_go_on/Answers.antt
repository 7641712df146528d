use Rattle.auc_model.proofs.Small.{schedules_join, one_more}
use Rattle.auc_model.proofs.laws.schedules_go_on.Goals as goal

pub returns : goal.returns
returns c = record {
  one = (λ g w v t r h. one_more g w v t r h);
  more = (λ g w u v ts us a b. schedules_join g w ts us u v a b);
}
