use Rattle.auc_graph.proofs.DualLaws.{square_are_few, assigned_are_few}
use Rattle.auc_graph.proofs.laws.prices_are_few.Goals as goal

pub returns : goal.returns
returns c = record { square = square_are_few; assigned = assigned_are_few }
