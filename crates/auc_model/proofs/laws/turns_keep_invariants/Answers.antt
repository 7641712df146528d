use Rattle.auc_model.proofs.Start.{kept_start, room_start}
use Rattle.auc_model.proofs.Schedule.{kept_turn}
use Rattle.auc_model.proofs.Room.{room_turn}
use Rattle.auc_model.proofs.laws.turns_keep_invariants.Goals as goal

pub returns : goal.returns
returns c = record {
  begins = kept_start;
  keeps = (λ g w v t r law k h. kept_turn g w law k t r v h);
  begins_with_room = room_start;
  keeps_room = (λ g w v t r law k room h. room_turn g w law k room t r v h);
}
