-- What the arcs of the holders show once the hub has counted every person.
use Rattle.std.specs.Prelude.{ℤ, List, All, map}
use Rattle.auc_answers.specs.Answers.{IsCertified}
use Rattle.auc_claim.specs.Claim.{pick_of}
use Rattle.auc_claim.specs.declared.cert.CertParts.TheVariants.{Optimal}
use Rattle.auc_graph.specs.Assignment.{IsAssignment, total_cost}
use Rattle.auc_graph.specs.Problem.{Problem}
use Rattle.auc_graph.specs.declared.arc.Arc.{Arc}
use Rattle.auc_model.specs.Chosen.{IsHeldArc}
use Rattle.auc_model.specs.World.{World}

-- the choice is an assignment of the problem by arcs of holders, and with these prices it is certified to cost least
pub record HasCertified (p : Problem) (w : World) (prices : List ℤ) : Type 0 where
  pub choice : List Arc
  pub assigned : IsAssignment p choice
  pub held : All (IsHeldArc p w) choice
  pub certified : IsCertified p (Optimal (total_cost choice) (map pick_of choice) prices)
