-- A direct run leaves a bracket only where one of its limits has stopped it, or its watch.
use Rattle.std.specs.Prelude.{Bool, true, ◌≡◌, ◌⊎◌, ℕ, ℤ, List, [], ◌∷◌}
use Rattle.auc_graph.specs.Problem.{Problem}
use Rattle.auc_claim.specs.declared.lists.Pick.{Pick}
use Rattle.auc_claim.specs.declared.reason.Reason.{Reason}
use Rattle.auc_claim.specs.declared.cert.CertParts.{CertParts}
use Rattle.auc_claim.specs.Claim.{chosen}
use Rattle.auc_answers.specs.declared.answer.Answer.{Answer}
use Rattle.auc_direct.specs.Endings.{IsLimitedFirst, IsLimitedFrom}
use Rattle.auc_call.specs.Codes.{limit_kind}
use Rattle.auc_call.specs.Memory.{AreAt}

-- Either the watch has said no, and this is told of a stop; or that holds.
abbrev pub UnlessStopped : Bool → Type 0 → Type 0 → Type 0
UnlessStopped stopped Stop Holds = ((stopped ≡ true) × Stop) ⊎ Holds

-- of a run by so many bids from these prices, or without a start where there are none
abbrev pub IsLimitedIn : Problem → List ℤ → ℕ → Answer → Type 0
IsLimitedIn p [] bids answer = IsLimitedFirst p bids answer
IsLimitedIn p (price ∷ prices) bids answer = IsLimitedFrom p bids (price ∷ prices) answer

-- these places and prices are a bracket that this limit of such a run has left
pub record IsLimitAt (p : Problem) (start : List ℤ) (bids : ℕ) (places : List ℕ) (prices : List ℤ) (reason : Reason)
    (lower cost : ℤ) : Type 0 where
  pub picks : List Pick
  pub at : AreAt p.arcs places (chosen 0 picks)
  pub limited : IsLimitedIn p start bids (Answer.Bracket (CertParts.Bracket reason lower cost picks prices))

-- and so is the limit of this kind
pub record IsLimitTold (p : Problem) (start : List ℤ) (bids : ℕ) (places : List ℕ) (prices : List ℤ) (kind : ℕ)
    (lower cost : ℤ) : Type 0 where
  pub reason : Reason
  pub kind_is : kind ≡ limit_kind reason
  pub limit : IsLimitAt p start bids places prices reason lower cost
