use Rattle.auc_run.proofs.performing.perform_plainly.Goals as goal

pub returns-clause-ended : goal.returns-clause-ended
returns-clause-ended g c = record {
  outcome = c.outcome_of-outcome.result;
  is = c.outcome_of-outcome.ensures.outcome;
  ends = record { whole = c.tell.ensures.whole; cut = c.tell.ensures.cut; refusal = c.tell.ensures.refusal; reason = c.tell.ensures.reason };
}
