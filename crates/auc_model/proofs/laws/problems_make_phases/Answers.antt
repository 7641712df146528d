use Rattle.auc_model.proofs.Tables.{table_lawful, occurs_persons}
use Rattle.auc_model.proofs.laws.problems_make_phases.Goals as goal

pub returns : goal.returns
returns c = record { lawful = table_lawful; idle = occurs_persons }
