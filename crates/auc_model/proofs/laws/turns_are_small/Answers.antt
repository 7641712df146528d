use Rattle.std.proofs.Common.{refl}
use Rattle.auc_model.specs.declared.turn.TurnReply.{TurnReply}
use Rattle.auc_model.proofs.Small.{nothing_changes, turn_step}
use Rattle.auc_model.proofs.laws.turns_are_small.Goals as goal

pub returns : goal.returns
returns c = record {
  nothing = (λ g w v t h. nothing_changes g w t TurnReply.Nothing v h refl);
  one_step = (λ g w v t r h. turn_step g w t r v h);
}
