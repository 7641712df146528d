-- How a run of the direct solver ends, and its answer.
use Rattle.std.specs.Prelude.{Bool, true, ℕ, ℤ, pos, ◌≡◌, ◌⊎◌, ◌≤ℤ◌, List, length, All}
use Rattle.auc_claim.specs.declared.cert.CertParts.{CertParts}
use Rattle.auc_claim.specs.declared.reason.Reason.{Reason}
use Rattle.auc_graph.specs.Assignment.{total}
use Rattle.auc_graph.specs.Dual.{price_at}
use Rattle.auc_graph.specs.Problem.{Problem}
use Rattle.auc_graph.specs.Table.{IsTableOf, Table}
use Rattle.auc_graph.specs.Price.{IsPrice}
use Rattle.auc_answers.specs.declared.answer.Answer.{Answer}
use Rattle.auc_rows.specs.declared.arc.ShortArc.{ShortArc}
use Rattle.auc_rows.specs.Rows.{AreRowsOf, AreSameRows, FlatTable}
use Rattle.auc_market.specs.declared.ending.Ending.{Ending}
use Rattle.auc_market.specs.Bids.{State}
use Rattle.auc_market.specs.Ceiling.{AreSpread, IsMatching, IsWide}
use Rattle.auc_direct.specs.Phases.{HasRun, IsAdopted}
use Rattle.auc_market.specs.Phases.{IsRun}
use Rattle.auc_market.specs.Starts.{AreOpened}
use Rattle.auc_market.specs.Endings.{IsLeft, IsLimitOfRun, IsRunStopped, IsToldOr}

-- The result of a run that began with these prices: only a limit has stopped it, or its watch.
pub record IsOutcome (r : FlatTable) (bids : ℕ) (begun : List ℤ) (before after : Bool) (ending : Ending)
    (prices : List ℤ) (holders : List ℕ) (owns : List ShortArc) : Type 0 where
  pub left : IsLeft r ending prices holders owns
  pub stopped : IsToldOr before after ending ((first : State) × (first.prices ≡ begun) × IsRunStopped r bids first ending prices)
  pub run : HasRun r bids begun ending prices

-- where the greatest price ends the last phase, the rows are wide or have no full matching
abbrev pub IsCeilingWide : FlatTable → Ending → Type 0
IsCeilingWide r ending =
    ending ≡ Ending.Stopped Reason.Ceiling → (choice : ℕ → ShortArc) → AreSpread r → IsMatching r choice → IsWide r (pos 1)

abbrev pub IsLimitedBy : Problem → ℕ → ℤ → CertParts → Type 0
IsLimitedBy p bids begun (CertParts.Optimal cost choice prices) = Unit {0}
IsLimitedBy p bids begun (CertParts.Infeasible persons objects) = Unit {0}
IsLimitedBy p bids begun (CertParts.Bracket reason lower cost choice prices) =
    (t : Table) × (r : FlatTable) × (first : State) × IsTableOf p t × AreSameRows t r × (begun ≤ℤ total first.prices)
    × IsLimitOfRun r bids first reason prices

-- a bracket is answered only where a limit has stopped a phase of a run; its first prices add up to at least this sum
abbrev pub IsLimited : Problem → ℕ → ℤ → Answer → Type 0
IsLimited p bids begun (Answer.Optimal cert) = Unit {0}
IsLimited p bids begun (Answer.Infeasible cert) = Unit {0}
IsLimited p bids begun (Answer.Bracket cert) = IsLimitedBy p bids begun cert
IsLimited p bids begun (Answer.Broken guard) = Unit {0}

-- the certificate is a bracket with this reason
abbrev pub HasReason : Reason → CertParts → Type 0
HasReason reason (CertParts.Optimal cost choice prices) = ⊥
HasReason reason (CertParts.Infeasible persons objects) = ⊥
HasReason reason (CertParts.Bracket told lower cost choice prices) = told ≡ reason

-- The problem has prices that may have to pass the greatest one: persons times the scaled spread of its costs, and what
-- eps adds at 1.
abbrev pub IsWideProblem : Problem → Type 0
IsWideProblem p = (r : FlatTable) × AreRowsOf p r × IsWide r (pos 1)

-- the answer is a bracket for this reason
abbrev pub IsBracketFor : Reason → Answer → Type 0
IsBracketFor reason (Answer.Optimal cert) = ⊥
IsBracketFor reason (Answer.Infeasible cert) = ⊥
IsBracketFor reason (Answer.Bracket cert) = HasReason reason cert
IsBracketFor reason (Answer.Broken guard) = ⊥

-- the same of a run without a start, which the greatest price ends in a wide problem alone
pub record IsLimitedFirst (p : Problem) (bids : ℕ) (answer : Answer) : Type 0 where
  pub limited : IsLimited p bids (pos 0) answer
  pub ceiling : IsBracketFor Reason.Ceiling answer → IsWideProblem p

-- the same of a run from start prices: the sum is that of what the opening has left of them
pub record IsLimitedFrom (p : Problem) (bids : ℕ) (start : List ℤ) (answer : Answer) : Type 0 where
  pub begun : List ℤ
  pub opened : AreOpened p.objects p.persons start begun
  pub limited : IsLimited p bids (total begun) answer

-- the answer after a watch has stopped the run: a bracket, with the reason that bids ran out; or that there is no
-- assignment
abbrev pub IsStopTold : Answer → Type 0
IsStopTold (Answer.Optimal cert) = ⊥
IsStopTold (Answer.Infeasible cert) = Unit {0}
IsStopTold (Answer.Bracket cert) = HasReason Reason.Bids cert
IsStopTold (Answer.Broken guard) = ⊥

-- The answer of a run under a watch. Either the watch has said no, and the answer is that of a stop; or its flag is as
-- before the call, and the condition holds.
abbrev pub IsLimitedUnless : Bool → Bool → Answer → Type 0 → Type 0
IsLimitedUnless before after answer Holds = ((after ≡ true) × IsStopTold answer) ⊎ ((after ≡ before) × Holds)

-- The watch was asked, unless there is no assignment: that needs no question.
abbrev pub IsAsked : Bool → Answer → Type 0
IsAsked asked (Answer.Optimal cert) = asked ≡ true
IsAsked asked (Answer.Infeasible cert) = Unit {0}
IsAsked asked (Answer.Bracket cert) = asked ≡ true
IsAsked asked (Answer.Broken guard) = asked ≡ true

-- prices to which phases of at most this number of bids each lead from the first ones
abbrev pub AreOfRun : Problem → ℕ → List ℤ → List ℤ → Type 0
AreOfRun p bids begun prices = (r : FlatTable) × (last : State) × AreRowsOf p r × (last.prices ≡ prices) × IsRun r bids begun last

-- prices that a search over a full table has proposed, at which each person has an object within 1 of the best
abbrev pub AreAdopted : Problem → List ℤ → Type 0
AreAdopted p prices = (r : FlatTable) × (last : State) × AreRowsOf p r × (last.prices ≡ prices) × IsAdopted r last

abbrev pub IsClaimOfRun : Problem → ℕ → List ℤ → CertParts → Type 0
IsClaimOfRun p bids begun (CertParts.Optimal cost choice prices) = AreOfRun p bids begun prices ⊎ AreAdopted p prices
IsClaimOfRun p bids begun (CertParts.Infeasible persons objects) = Unit {0}
IsClaimOfRun p bids begun (CertParts.Bracket reason lower cost choice prices) = AreOfRun p bids begun prices

-- No phase of the run has exceeded the limit of bids: the answer's prices come from such phases, or from a search over
-- a full table. Where there is no assignment, nothing is said of phases.
abbrev pub IsOfPhases : Problem → ℕ → List ℤ → Answer → Type 0
IsOfPhases p bids begun (Answer.Optimal cert) = IsClaimOfRun p bids begun cert
IsOfPhases p bids begun (Answer.Infeasible cert) = Unit {0}
IsOfPhases p bids begun (Answer.Bracket cert) = IsClaimOfRun p bids begun cert
IsOfPhases p bids begun (Answer.Broken guard) = Unit {0}

-- prices that a run without a start may begin with: one for each object, and all 0 where there are more objects than
-- persons
pub record AreFirst (p : Problem) (prices : List ℤ) : Type 0 where
  pub each : length prices ≡ p.objects
  pub within : All IsPrice prices
  pub spare : (p.objects ≡ p.persons) ⊎ ((j : ℕ) → price_at prices j ≡ pos 0)

abbrev pub IsClaimOfFirst : Problem → ℕ → CertParts → Type 0
IsClaimOfFirst p bids (CertParts.Optimal cost choice prices) =
    ((begun : List ℤ) × AreFirst p begun × AreOfRun p bids begun prices) ⊎ AreAdopted p prices
IsClaimOfFirst p bids (CertParts.Infeasible persons objects) = Unit {0}
IsClaimOfFirst p bids (CertParts.Bracket reason lower cost choice prices) =
    (begun : List ℤ) × AreFirst p begun × AreOfRun p bids begun prices

-- the same of a run without a start
abbrev pub IsOfFirstPhases : Problem → ℕ → Answer → Type 0
IsOfFirstPhases p bids (Answer.Optimal cert) = IsClaimOfFirst p bids cert
IsOfFirstPhases p bids (Answer.Infeasible cert) = Unit {0}
IsOfFirstPhases p bids (Answer.Bracket cert) = IsClaimOfFirst p bids cert
IsOfFirstPhases p bids (Answer.Broken guard) = Unit {0}

-- the same of a run from start prices
pub record IsOfPhasesFrom (p : Problem) (bids : ℕ) (start : List ℤ) (answer : Answer) : Type 0 where
  pub begun : List ℤ
  pub opened : AreOpened p.objects p.persons start begun
  pub run : IsOfPhases p bids begun answer
