use Rattle.auc_graph.proofs.SpreadLaws.{IsRangeOf}
use Rattle.auc_graph.proofs.spread.spread_of.Given as goal

abbrev pub invariant-loop-arc : goal.invariant-loop-arc
invariant-loop-arc l = IsRangeOf l.arcs l.arc-index l.least l.greatest
