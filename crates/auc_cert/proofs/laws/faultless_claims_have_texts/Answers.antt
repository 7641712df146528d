use Rattle.auc_cert.proofs.CertLaws.{has_text}
use Rattle.auc_cert.proofs.laws.faultless_claims_have_texts.Goals as goal

pub returns : goal.returns
returns c = has_text
