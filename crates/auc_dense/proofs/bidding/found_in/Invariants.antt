use Rattle.auc_dense.specs.Bidding.{IsFound}
use Rattle.auc_dense.proofs.bidding.found_in.Given as goal

abbrev pub invariant-loop-object : goal.invariant-loop-object
invariant-loop-object l = IsFound l.gap l.row l.prices l.object l.found
