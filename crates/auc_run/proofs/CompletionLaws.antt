-- What a completion of the empty partial assignment says of the problem.
use Rattle.std.proofs.Common.{◌≡◌, ℕ, List, subst}
use Rattle.auc_graph.specs.Problem.{Problem}
use Rattle.auc_graph.specs.Table.{Table, IsTableOf}
use Rattle.auc_hall.specs.OfProblem.{IsFullOf}
use Rattle.auc_hall.specs.Matching.{IsMatching}
use Rattle.auc_hall.specs.declared.matching.Matching.{Matching}
use Rattle.auc_hall.specs.declared.matching.Matching.TheVariants.{Full}
use Rattle.auc_hall.proofs.ProblemLaws.{matching_of}

pub full_is : (p : Problem) (t : Table) (m : Matching) (numbers : List ℕ) → IsTableOf p t → IsMatching t m → m ≡ Full numbers → IsFullOf p numbers
full_is p t m numbers of h is = matching_of p t (Full numbers) of (subst (IsMatching t) is h)
