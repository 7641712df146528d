use Rattle.auc_model.proofs.Work.{moves_less, turns_never_more}
use Rattle.auc_model.proofs.laws.rounds_use_up_work.Goals as goal

pub returns : goal.returns
returns c = record {
  never_more = turns_never_more;
  less = moves_less;
}
