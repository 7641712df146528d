use Rattle.auc_graph.proofs.DualLaws.{each_has_arc}
use Rattle.auc_graph.proofs.laws.assigned_persons_have_arcs.Goals as goal

pub returns : goal.returns
returns c = each_has_arc
