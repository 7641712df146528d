-- How a chain of bids, a phase and a run end.
use Rattle.std.specs.Prelude.{Bool, true, ℕ, ℤ, pos, ◌≡◌, ◌⊎◌, ◌+ℤ◌, ◌≤ℤ◌, List, length, All}
use Rattle.auc_claim.specs.declared.reason.Reason.{Reason}
use Rattle.auc_graph.specs.Assignment.{total}
use Rattle.auc_graph.specs.Dual.{price_at}
use Rattle.auc_graph.specs.Price.{IsPrice}
use Rattle.auc_rows.specs.declared.arc.ShortArc.{ShortArc}
use Rattle.auc_rows.specs.Rows.{FlatTable}
use Rattle.auc_market.specs.declared.ending.Ending.{Ending}
use Rattle.auc_market.specs.Bids.{AreMade, State}
use Rattle.auc_market.specs.Phases.{IsPhase, IsReady}
use Rattle.auc_market.specs.Eps.{IsEpsOf}
use Rattle.auc_market.specs.Market.{HaveObjects, IsAbove, Stands}

-- The bids of a phase that began at this state have run out: exactly the limit of bids leads to these prices.
pub record HaveRunOut (r : FlatTable) (bids : ℕ) (s : State) (prices : List ℤ) : Type 0 where
  pub eps : ℤ
  pub is_eps : IsEpsOf r eps
  pub stands : Stands r eps s.prices s.holders s.owns
  pub last : State
  pub run : AreMade r eps s bids last
  pub prices_are : prices ≡ last.prices

-- A phase that began at this state has led to a free person whose least bid would be above the greatest price.
pub record IsBlocked (r : FlatTable) (bids : ℕ) (s : State) (prices : List ℤ) : Type 0 where
  pub eps : ℤ
  pub is_eps : IsEpsOf r eps
  pub last : State
  pub phase : IsPhase r bids s last
  pub stands : Stands r eps last.prices last.holders last.owns
  pub above : IsAbove r eps last.prices last.owns
  pub prices_are : prices ≡ last.prices

-- The limits that may stop a phase that began at this state. Either it has made all its bids, and the prices add up to
-- at least that many more. Or a free person's least bid would be above the greatest price.
abbrev pub IsLimit : FlatTable → ℕ → State → Reason → List ℤ → Type 0
IsLimit r bids s Reason.Bids prices = HaveRunOut r bids s prices × ((total s.prices +ℤ pos bids) ≤ℤ total prices)
IsLimit r bids s Reason.Ceiling prices = IsBlocked r bids s prices
IsLimit r bids s Reason.Posts prices = ⊥
IsLimit r bids s Reason.Trail prices = ⊥
IsLimit r bids s Reason.Mail prices = ⊥

-- each person has an object, or a limit has stopped the phase
abbrev pub IsEnding : FlatTable → ℕ → State → Ending → List ℤ → List ShortArc → Type 0
IsEnding r bids s Ending.Sold prices owns = HaveObjects (length r.rows) owns
IsEnding r bids s (Ending.Stopped reason) prices owns = IsLimit r bids s reason prices

-- the reasons for which a direct run may be stopped; a watch stops it as if its bids had run out
abbrev pub IsOwnReason : Reason → Type 0
IsOwnReason Reason.Bids = Unit {0}
IsOwnReason Reason.Ceiling = Unit {0}
IsOwnReason Reason.Posts = ⊥
IsOwnReason Reason.Trail = ⊥
IsOwnReason Reason.Mail = ⊥

-- where a phase has ended as sold, each person has an object
abbrev pub IsSold : FlatTable → Ending → List ShortArc → Type 0
IsSold r Ending.Sold owns = HaveObjects (length r.rows) owns
IsSold r (Ending.Stopped reason) owns = IsOwnReason reason

-- prices that a phase at this eps may begin with: either there are as many objects as persons, or all are 0 and eps is
-- 1
pub record IsStart (r : FlatTable) (eps : ℤ) (prices : List ℤ) : Type 0 where
  pub each : length prices ≡ r.objects
  pub within : All IsPrice prices
  pub spare : (r.objects ≡ length r.rows) ⊎ ((eps ≡ pos 1) × ((j : ℕ) → price_at prices j ≡ pos 0))

-- what all phases leave: either the last one, at eps 1, has given each person an object, or one of them was stopped
abbrev pub IsLeft : FlatTable → Ending → List ℤ → List ℕ → List ShortArc → Type 0
IsLeft r Ending.Sold prices holders owns = Stands r (pos 1) prices holders owns × HaveObjects (length r.rows) owns
IsLeft r (Ending.Stopped reason) prices holders owns = (eps : ℤ) × Stands r eps prices holders owns × IsOwnReason reason

-- if a phase that began at this state was stopped, a limit has stopped it
abbrev pub IsStopped : FlatTable → ℕ → State → Ending → List ℤ → Type 0
IsStopped r bids s Ending.Sold prices = Unit {0}
IsStopped r bids s (Ending.Stopped reason) prices = IsLimit r bids s reason prices

-- A limit has stopped a phase of a run. The prices that the phase began with add up to no less than those of the run's
-- start.
pub record IsLimitOfRun (r : FlatTable) (bids : ℕ) (begun : State) (reason : Reason) (prices : List ℤ) : Type 0 where
  pub first : State
  pub ready : IsReady r bids begun first
  pub risen : total begun.prices ≤ℤ total first.prices
  pub limit : IsLimit r bids first reason prices

-- if a run was stopped, a limit has stopped one of its phases
abbrev pub IsRunStopped : FlatTable → ℕ → State → Ending → List ℤ → Type 0
IsRunStopped r bids begun Ending.Sold prices = Unit {0}
IsRunStopped r bids begun (Ending.Stopped reason) prices = IsLimitOfRun r bids begun reason prices

-- The ending of a run under a watch, by whether the watch had said no before it, and whether it has after it. Either it
-- has said no, and the run ends as one whose bids have run out; or nothing has changed about that, and the condition
-- holds.
abbrev pub IsToldOr : Bool → Bool → Ending → Type 0 → Type 0
IsToldOr before after ending Holds = ((after ≡ true) × (ending ≡ Ending.Stopped Reason.Bids)) ⊎ ((after ≡ before) × Holds)
