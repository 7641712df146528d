use Rattle.auc_mail.proofs.RunLaws.{run_fits}
use Rattle.auc_mail.proofs.StepLaws.{step_fits}
use Rattle.auc_mail.proofs.laws.calls_of_a_run_fit.Goals as goal

pub returns : goal.returns
returns g c = record { step = λ x y k r h. step_fits x y k r h; run = λ x y es run. run_fits x es y run }
