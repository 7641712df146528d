-- What is true of the caller's memory after a call, and passes the checker.
use Rattle.std.specs.Prelude.{◌≡◌, ℕ, ◌≤◌, ℤ, List, length, take, None}
use Rattle.auc_graph.specs.Problem.{Problem, IsProblem}
use Rattle.auc_graph.specs.Assignment.{IsLeast, total_cost}
use Rattle.auc_hall.specs.OfProblem.{IsHallSetOf}
use Rattle.auc_claim.specs.declared.lists.Pick.{Pick}
use Rattle.auc_claim.specs.declared.reason.Reason.{Reason}
use Rattle.auc_claim.specs.declared.cert.CertParts.{CertParts}
use Rattle.auc_claim.specs.Claim.{IsBracket, chosen, fault_of}
use Rattle.auc_claim.specs.InRange.{IsInRange}
use Rattle.auc_call.specs.Memory.{AreAt}

-- the arcs at these places are an assignment of this cost, and no assignment costs less; by these prices the checker
-- sees it
pub record IsLeastAt (p : Problem) (places : List ℕ) (prices : List ℤ) (cost : ℤ) : Type 0 where
  pub problem : IsProblem p
  pub picks : List Pick
  pub at : AreAt p.arcs places (chosen 0 picks)
  pub least : IsLeast p (chosen 0 picks)
  pub cost_is : total_cost (chosen 0 picks) ≡ cost
  pub in_range : IsInRange (CertParts.Optimal cost picks prices)
  pub shown : fault_of p (CertParts.Optimal cost picks prices) ≡ None

-- the arcs at these places are an assignment of this cost, and no assignment costs less than the bound; by these prices
-- the checker sees it
pub record IsBracketAt (p : Problem) (places : List ℕ) (prices : List ℤ) (reason : Reason) (lower cost : ℤ) : Type 0 where
  pub problem : IsProblem p
  pub picks : List Pick
  pub at : AreAt p.arcs places (chosen 0 picks)
  pub bracket : IsBracket p lower cost (chosen 0 picks)
  pub in_range : IsInRange (CertParts.Bracket reason lower cost picks prices)
  pub shown : fault_of p (CertParts.Bracket reason lower cost picks prices) ≡ None

-- the first so many numbers are persons who together know just the first so many objects, which are fewer; the checker
-- sees it
pub record IsHallAt (p : Problem) (choice set : List ℕ) (persons objects : ℕ) : Type 0 where
  pub problem : IsProblem p
  pub persons_in : persons ≤ length choice
  pub objects_in : objects ≤ length set
  pub hall : IsHallSetOf p (take persons choice) (take objects set)
  pub in_range : IsInRange (CertParts.Infeasible (take persons choice) (take objects set))
  pub shown : fault_of p (CertParts.Infeasible (take persons choice) (take objects set)) ≡ None
