use Rattle.auc_hall.proofs.labels.Labels.place.Given as goal

abbrev pub decreases-loop-scans : goal.decreases-loop-scans
decreases-loop-scans l = l.scans
