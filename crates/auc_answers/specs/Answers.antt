-- Which answers are right for a problem.
use Rattle.std.specs.Prelude.{ℕ, ℤ, ◌≡◌, List, Option, None, Result, Ok, Err}
use Rattle.auc_graph.specs.declared.arc.Arc.{Arc}
use Rattle.auc_graph.specs.Assignment.{IsAssignment}
use Rattle.auc_graph.specs.Problem.{Problem}
use Rattle.auc_letters.specs.declared.letter.Why.{Why}
use Rattle.auc_letters.specs.declared.state.Held.{Held}
use Rattle.auc_hall.specs.OfProblem.{IsHallSetOf}
use Rattle.auc_claim.specs.declared.lists.Pick.{Pick}
use Rattle.auc_claim.specs.declared.reason.Reason.{Reason}
use Rattle.auc_claim.specs.declared.cert.CertParts.{CertParts}
use Rattle.auc_claim.specs.Claim.{IsAllowed, fault_of}
use Rattle.auc_claim.specs.InRange.{IsInRange}
use Rattle.auc_answers.specs.declared.answer.Answer.{Answer}
use Rattle.auc_answers.specs.declared.answer.Guard.{Guard}
use Rattle.auc_answers.specs.Claims.{ArePlaceable, BoundFits, GrowsFrom, IsBracketBy, IsChoiceOf, claim_of, picks_of}

-- The certificate is in range, the checker finds no fault in it, and so its claim about the problem is true. It has a
-- text where the problem has one (`auc_claim` faultless_claims_are_spelled).
pub record IsCertified (p : Problem) (cert : CertParts) : Type 0 where
  pub in_range : IsInRange cert
  pub faultless : fault_of p cert ≡ None
  pub allowed : IsAllowed p cert

-- a certificate of a least-cost assignment
pub record IsLeastCertificate (p : Problem) (cert : CertParts) : Type 0 where
  pub cost : ℤ
  pub choice : List Pick
  pub prices : List ℤ
  pub is : cert ≡ CertParts.Optimal cost choice prices
  pub certified : IsCertified p cert

-- a certificate of a Hall set, with exactly the objects to which the named persons have arcs
pub record IsHallCertificate (p : Problem) (cert : CertParts) : Type 0 where
  pub persons : List ℕ
  pub objects : List ℕ
  pub is : cert ≡ CertParts.Infeasible persons objects
  pub set : IsHallSetOf p persons objects
  pub certified : IsCertified p cert

-- a certificate of a bracket: an assignment, and a lower bound on the cost of every assignment
pub record IsBracketCertificate (p : Problem) (cert : CertParts) : Type 0 where
  pub reason : Reason
  pub lower : ℤ
  pub cost : ℤ
  pub choice : List Pick
  pub prices : List ℤ
  pub is : cert ≡ CertParts.Bracket reason lower cost choice prices
  pub certified : IsCertified p cert

abbrev pub HasAssignment : Problem → Type 0
HasAssignment p = (choice : List Arc) × IsAssignment p choice

-- the cause of a stop that a limit stands for
abbrev pub why_of : Reason → Why
why_of Reason.Bids = Why.Bids
why_of Reason.Ceiling = Why.Ceiling
why_of Reason.Posts = Why.Posts
why_of Reason.Trail = Why.Trail
why_of Reason.Mail = Why.Mail

-- the limit or the guard that a cause of a stop stands for
abbrev pub stop_of : Why → Result Reason Guard
stop_of Why.Bids = Ok Reason.Bids
stop_of Why.Ceiling = Ok Reason.Ceiling
stop_of Why.Posts = Ok Reason.Posts
stop_of Why.Trail = Ok Reason.Trail
stop_of Why.Mail = Ok Reason.Mail
stop_of Why.Fell = Err Guard.Fell
stop_of Why.Stray = Err Guard.Stray
stop_of Why.Stuck = Err Guard.Stuck

-- What the solver may answer: a certificate in which the checker finds no fault. No guard is ever hit.
abbrev pub IsAnswer : Problem → Answer → Type 0
IsAnswer p (Answer.Optimal cert) = IsLeastCertificate p cert
IsAnswer p (Answer.Infeasible cert) = IsHallCertificate p cert
IsAnswer p (Answer.Bracket cert) = IsBracketCertificate p cert
IsAnswer p (Answer.Broken guard) = ⊥

-- The answer where each person has an object, by these holders and prices. It is a certificate that the holders' arcs
-- cost least at these prices. Otherwise it is the checker's guard, exactly where these arcs are no choice, or the
-- checker refuses the certificate.
abbrev pub IsOptimalAnswer : Problem → List (Option Held) → List ℤ → Answer → Type 0
IsOptimalAnswer p holders prices (Answer.Optimal cert) =
    (choice : List Arc) × IsChoiceOf p holders choice × (cert ≡ claim_of choice prices) × IsCertified p cert
IsOptimalAnswer p holders prices (Answer.Infeasible cert) = ⊥
IsOptimalAnswer p holders prices (Answer.Bracket cert) = ⊥
IsOptimalAnswer p holders prices (Answer.Broken guard) =
    (guard ≡ Guard.Check)
    × ((choice : List Arc) → IsChoiceOf p holders choice → IsCertified p (claim_of choice prices) → ⊥)

-- The answer where a limit has stopped the run at these holders and prices. It is a bracket of an assignment grown from
-- the holders' arcs, with the dual bound of these prices; or a Hall set. Or it is the checker's guard, just where a
-- holder's arc isn't the person's to its object, or a person holds two objects, or the bound doesn't fit 64 bits.
abbrev pub IsBracketAnswer : Problem → Reason → List (Option Held) → List ℤ → Answer → Type 0
IsBracketAnswer p reason holders prices (Answer.Optimal cert) = ⊥
IsBracketAnswer p reason holders prices (Answer.Infeasible cert) = IsHallCertificate p cert
IsBracketAnswer p reason holders prices (Answer.Bracket cert) =
    ArePlaceable p holders × IsBracketBy p reason prices cert × IsCertified p cert
    × GrowsFrom p holders (picks_of cert)
IsBracketAnswer p reason holders prices (Answer.Broken guard) = (guard ≡ Guard.Check) × (ArePlaceable p holders → BoundFits p prices → ⊥)

-- a bracket of an assignment that needed no completion, with the dual bound of these prices
abbrev pub IsBracketOf : Problem → Reason → List ℤ → Answer → Type 0
IsBracketOf p reason prices (Answer.Optimal cert) = ⊥
IsBracketOf p reason prices (Answer.Infeasible cert) = ⊥
IsBracketOf p reason prices (Answer.Bracket cert) = IsBracketBy p reason prices cert × IsCertified p cert
IsBracketOf p reason prices (Answer.Broken guard) = ⊥

-- the answer where there is no assignment: a Hall set
abbrev pub IsInfeasibleAnswer : Problem → Answer → Type 0
IsInfeasibleAnswer p (Answer.Optimal cert) = ⊥
IsInfeasibleAnswer p (Answer.Infeasible cert) = IsHallCertificate p cert
IsInfeasibleAnswer p (Answer.Bracket cert) = ⊥
IsInfeasibleAnswer p (Answer.Broken guard) = ⊥
