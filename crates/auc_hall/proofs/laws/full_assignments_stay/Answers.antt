use Rattle.auc_hall.proofs.CompletionLaws.{full_choices_stay}
use Rattle.auc_hall.proofs.laws.full_assignments_stay.Goals as goal

pub returns : goal.returns
returns c = full_choices_stay
