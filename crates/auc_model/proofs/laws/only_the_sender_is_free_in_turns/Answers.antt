use Rattle.auc_model.proofs.Determined.{turns_alike}
use Rattle.auc_model.proofs.laws.only_the_sender_is_free_in_turns.Goals as goal

pub returns : goal.returns
returns c g w u v t r s h k = turns_alike g w c.only_the_sender_is_free.ensures.reply c.only_the_sender_is_free.ensures.next t r s u v h k
