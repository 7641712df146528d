use Rattle.auc_market.specs.Hall.{AreAdded}
use Rattle.auc_market.proofs.hall.add_row.Given as goal

abbrev pub invariant-loop-arc : goal.invariant-loop-arc
invariant-loop-arc l = AreAdded l.row l.arc-index l.fn.seen l.seen
