use Rattle.auc_dense.proofs.BiddingLaws.{IsUnderWay}
use Rattle.auc_dense.proofs.bidding.bid_out.Given as goal

abbrev pub invariant-loop-made : goal.invariant-loop-made
invariant-loop-made l = IsUnderWay l.table.persons l.table.objects l.table.costs.now l.table.stride l.gap l._made l.phase
