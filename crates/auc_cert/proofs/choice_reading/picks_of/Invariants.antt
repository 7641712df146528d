use Rattle.auc_cert.specs.Runs.{IsRun}
use Rattle.auc_claim.specs.Spelled.{IsPick}
use Rattle.auc_cert.specs.Text.{assign_line}
use Rattle.auc_cert.proofs.choice_reading.picks_of.Given as goal

abbrev pub invariant-loop-person : goal.invariant-loop-person
invariant-loop-person l = IsRun assign_line (IsPick l.most) l.person l.bytes l.picks.items l.rest
