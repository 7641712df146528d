use Rattle.auc_graph.proofs.DualLaws.{dual_is_below}
use Rattle.auc_graph.specs.Assignment.{total_cost}
use Rattle.auc_graph.proofs.laws.prices_bound_costs.Goals as goal

pub returns-clause-scaled : goal.returns-clause-scaled
returns-clause-scaled c = λ p prices choice within len above given. dual_is_below p prices within len choice given above

pub returns-clause-lower : goal.returns-clause-lower
returns-clause-lower c = λ p prices choice lower within len above given least. least.least (total_cost choice) (dual_is_below p prices within len choice given above)
