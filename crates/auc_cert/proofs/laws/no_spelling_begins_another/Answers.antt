use Rattle.auc_cert.proofs.CertLaws.{begins_no_other, begins_no_other_in}
use Rattle.auc_cert.proofs.laws.no_spelling_begins_another.Goals as goal

pub returns-clause-usual : goal.returns-clause-usual
returns-clause-usual c = begins_no_other

pub returns-clause-large : goal.returns-clause-large
returns-clause-large c = begins_no_other_in
