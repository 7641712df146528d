-- The phases of a run, each from the prices that the one before has left, and what an answer says of the last one.
use Rattle.std.specs.Prelude.{ℕ, ℤ, pos, ◌≡◌, List, [], ◌∷◌, Option, Some, All, length}
use Rattle.auc_graph.specs.declared.arc.Arc.{Arc}
use Rattle.auc_graph.specs.Assignment.{IsAssignment}
use Rattle.auc_graph.specs.Problem.{Problem}
use Rattle.auc_graph.specs.Table.{IsTableOf, Table}
use Rattle.auc_claim.specs.declared.reason.Reason.{Reason}
use Rattle.auc_claim.specs.declared.cert.CertParts.{CertParts}
use Rattle.auc_model.specs.Chosen.{ArePricesOf, IsHeldArc}
use Rattle.auc_model.specs.World.{World}
use Rattle.auc_model.specs.declared.turn.End.{End}
use Rattle.auc_letters.specs.declared.state.Held.{Held}
use Rattle.auc_answers.specs.declared.answer.Answer.{Answer}
use Rattle.auc_phases.specs.declared.limits.Limits.{Limits}
use Rattle.auc_answers.specs.Answers.{why_of}
use Rattle.auc_answers.specs.Claims.{GrowsFrom, IsBracketBy, claim_of, holder_at, picks_of}
use Rattle.auc_phases.specs.Eps.{next_eps}
use Rattle.auc_phases.specs.Begins.{Begins}
use Rattle.auc_world.specs.Phases.{IsPlayed, Stage}

-- a phase at this eps and these prices follows the phase r: each person had an object there, the eps is the next one,
-- and the prices are those that r has left
pub record Follows (t : Table) (r : Stage) (eps : ℤ) (prices : List ℤ) : Type 0 where
  pub sold : r.world.end ≡ Some End.All
  pub next : next_eps r.eps ≡ Some eps
  pub each : length prices ≡ t.objects
  pub kept : ArePricesOf r.world prices

-- the phase s was played, follows the phase r, and Before is true of r and the phases before it
pub record GoesOn (t : Table) (limits : Limits) (s r : Stage) (Before : Type 0) : Type 0 where
  pub played : IsPlayed t limits s
  pub follows : Follows t r s.eps s.prices
  pub before : Before

-- The phases of a run, the last one first, each following the one before. The first one begins from start prices, or
-- without them.
abbrev pub Chain : Table → Limits → Option (List ℤ) → List Stage → Type 0
Chain t limits start [] = ⊥
Chain t limits start (s ∷ []) = IsPlayed t limits s × Begins t start s.eps s.prices
Chain t limits start (s ∷ r ∷ rest) = GoesOn t limits s r (Chain t limits start (r ∷ rest))

-- a run of the problem with these limits whose last phase is this one
pub record EndsIn (p : Problem) (limits : Limits) (start : Option (List ℤ)) (last : Stage) : Type 0 where
  pub table : Table
  pub of : IsTableOf p table
  pub before : List Stage
  pub chain : Chain table limits start (last ∷ before)

-- the claim that the arcs of the world's holders cost least, by its true prices
pub record IsClaimOf (p : Problem) (w : World) (cert : CertParts) : Type 0 where
  pub choice : List Arc
  pub assigned : IsAssignment p choice
  pub held : All (IsHeldArc p w) choice
  pub prices : List ℤ
  pub each : length prices ≡ p.objects
  pub true_prices : ArePricesOf w prices
  pub is : cert ≡ claim_of choice prices

-- a bracket: an assignment that has grown from the arcs of the world's holders, the dual bound of its true prices, and
-- the reason for which it was stopped
pub record IsBracketOf (p : Problem) (w : World) (cert : CertParts) : Type 0 where
  pub reason : Reason
  pub stopped : w.end ≡ Some (End.Stopped (why_of reason))
  pub prices : List ℤ
  pub each : length prices ≡ p.objects
  pub true_prices : ArePricesOf w prices
  pub by : IsBracketBy p reason prices cert
  pub holders : List (Option Held)
  pub holders_are : (j : ℕ) → holder_at holders j ≡ w.holder j
  pub grown : GrowsFrom p holders (picks_of cert)

-- the last phase of a run, at eps 1, has sold an object to each person, and its world claims this least cost
pub record EndsSold (p : Problem) (limits : Limits) (start : Option (List ℤ)) (cert : CertParts) : Type 0 where
  pub last : Stage
  pub run : EndsIn p limits start last
  pub at_one : last.eps ≡ pos 1
  pub sold : last.world.end ≡ Some End.All
  pub claim : IsClaimOf p last.world cert

-- a limit has stopped the last phase of a run, and its world claims this bracket
pub record EndsStopped (p : Problem) (limits : Limits) (start : Option (List ℤ)) (cert : CertParts) : Type 0 where
  pub last : Stage
  pub run : EndsIn p limits start last
  pub bracket : IsBracketOf p last.world cert

-- What an answer says of its run. A least cost is claimed by the last world, at eps 1, in which each person has an
-- object. A bracket is claimed by the prices of the last world, which a limit has stopped.
abbrev pub IsOfRun : Problem → Limits → Option (List ℤ) → Answer → Type 0
IsOfRun p limits start (Answer.Optimal cert) = EndsSold p limits start cert
IsOfRun p limits start (Answer.Infeasible cert) = Unit {0}
IsOfRun p limits start (Answer.Bracket cert) = EndsStopped p limits start cert
IsOfRun p limits start (Answer.Broken guard) = ⊥
