-- What the fields say under a status.
use Rattle.std.specs.Prelude.{◌≡◌, ℕ, ℤ, List, None}
use Rattle.auc_graph.specs.Problem.{Problem, IsProblem}
use Rattle.auc_claim.specs.declared.reason.Reason.{Reason}
use Rattle.auc_claim.specs.declared.cert.CertParts.{CertParts}
use Rattle.auc_claim.specs.Claim.{fault_of}
use Rattle.auc_claim.specs.InRange.{IsInRange}
use Rattle.auc_call.specs.declared.checked.ClaimFault.{ClaimFault}
use Rattle.auc_call.specs.Shown.{IsBracketAt}
use Rattle.auc_call.specs.Checking.{IsClaimFault, IsHallFault}
use Rattle.auc_call.specs.Codes.{limit_kind, claim_kind, claim_place}

-- an assignment and a bound, as the limit of this kind has left them
pub record IsBracketTold (p : Problem) (places : List ℕ) (prices : List ℤ) (kind : ℕ) (lower cost : ℤ) : Type 0 where
  pub reason : Reason
  pub kind_is : kind ≡ limit_kind reason
  pub right : IsBracketAt p places prices reason lower cost

-- the claim has a fault of this kind at this place
pub record IsClaimFaultTold (p : Problem) (places : List ℕ) (prices : List ℤ) (cost : ℤ) (kind place : ℕ) : Type 0 where
  pub fault : ClaimFault
  pub is : IsClaimFault p places prices cost fault
  pub kind_is : kind ≡ claim_kind fault
  pub place_is : place ≡ claim_place fault

-- and so has the Hall set
pub record IsHallFaultTold (p : Problem) (persons objects : List ℕ) (kind place : ℕ) : Type 0 where
  pub fault : ClaimFault
  pub is : IsHallFault p persons objects fault
  pub kind_is : kind ≡ claim_kind fault
  pub place_is : place ≡ claim_place fault

-- the checker sees a Hall set in these numbers, which rise
pub record IsHallShown (p : Problem) (persons objects : List ℕ) : Type 0 where
  pub problem : IsProblem p
  pub in_range : IsInRange (CertParts.Infeasible persons objects)
  pub shown : fault_of p (CertParts.Infeasible persons objects) ≡ None
