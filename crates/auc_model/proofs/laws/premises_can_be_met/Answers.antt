use Rattle.std.proofs.Common.{refl}
use Rattle.auc_model.proofs.Example.{small, beginning, lawful, starts, usual}
use Rattle.auc_model.proofs.WorkedRun.{turns, finished, run}
use Rattle.auc_model.proofs.laws.premises_can_be_met.Goals as goal

pub returns : goal.returns
returns c = (small, beginning, lawful, starts, usual, (turns, finished, run, refl))
