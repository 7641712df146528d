-- What contracts see of a market, its invariants, and the result of each move.
use Rattle.std.specs.Prelude.{Bool, true, ℕ, ℤ, pos, ◌≡◌, ◌≢◌, ◌<◌, ◌≤◌, ◌≤ℤ◌, List, length}
use Rattle.auc_claim.specs.declared.reason.Reason.{Reason}
use Rattle.auc_graph.specs.Assignment.{total}
use Rattle.auc_rows.specs.declared.arc.ShortArc.{ShortArc}
use Rattle.auc_rows.specs.Rows.{EachHasArc, FlatTable, IsFlatTable}
use Rattle.auc_market.specs.declared.ending.Chain.{Chain}
use Rattle.auc_market.specs.declared.ending.Ending.{Ending}
use Rattle.auc_letters.specs.declared.limits.TheConstants.{NOBODY}
use Rattle.auc_market.specs.declared.incumbent.Incumbent.{Incumbent}
use Rattle.auc_market.specs.declared.shortlist.Shortlist.{Shortlist}
use Rattle.auc_market.specs.Bids.{AreCounted, AreSpent, IsBidMade, State, state}
use Rattle.auc_market.specs.Endings.{IsEnding, IsSold, IsToldOr}
use Rattle.auc_market.specs.Eps.{IsEpsOf}
use Rattle.auc_market.specs.Incumbent.{IsIncumbent}
use Rattle.auc_market.specs.Market.{HaveAllBut, HaveObjects, IsAbove, IsAwarded, Stands, own_at}
use Rattle.auc_market.specs.Phases.{IsPhase}
use Rattle.auc_market.specs.Shortlist.{Kept}
use Rattle.auc_market.specs.Augmented.{IsAugmented}

-- The rows, eps, the prices, the holder of each object, and the arc by which each person holds one. Also whether there
-- is an incumbent, and its arcs.
pub record Position : Type 0 where
  pub table : FlatTable
  pub eps : ℤ
  pub prices : List ℤ
  pub holders : List ℕ
  pub owns : List ShortArc
  pub has_incumbent : Bool
  pub incumbent : List ShortArc

abbrev pub position : FlatTable → ℤ → List ℤ → List ℕ → List ShortArc → Bool → List ShortArc → Position
position r e p h o b i = record { table = r; eps = e; prices = p; holders = h; owns = o; has_incumbent = b; incumbent = i }

abbrev pub state_at : Position → State
state_at p = state p.prices p.holders p.owns

-- ---- what always holds

-- the laws of a position: sound rows, an arc for each person, an eps in range, and the invariant between two bids
pub record Law (p : Position) : Type 0 where
  pub sound : IsFlatTable p.table
  pub arcs : EachHasArc p.table
  pub eps : IsEpsOf p.table p.eps
  pub stands : Stands p.table p.eps p.prices p.holders p.owns

-- the invariants of a market: the laws of its position, correct candidate lists, and an incumbent that was held once
pub record IsMarket (p : Position) (lists : List Shortlist) (incumbent : Incumbent) : Type 0 where
  pub law : Law p
  pub kept : Kept p.table p.prices lists
  pub incumbent_is : IsIncumbent p.table incumbent

-- the beginning of a run: these rows, and the last eps, 1
pub record Begins (r : FlatTable) (p : Position) : Type 0 where
  pub table : p.table ≡ r
  pub eps : p.eps ≡ pos 1

-- ---- moves within a phase

-- a person who holds no object
pub record IsFree (p : Position) (person : ℕ) : Type 0 where
  pub known : person < length p.table.rows
  pub none : (own_at p.owns person).object ≡ NOBODY

-- a person who holds no object, or none
pub record IsFreed (p : Position) (person : ℕ) : Type 0 where
  pub below : person ≢ NOBODY → person < length p.table.rows
  pub none : (own_at p.owns person).object ≡ NOBODY

-- A free person bids and gets the object. The holder before is displaced.
pub record IsBid (person : ℕ) (old new : Position) (displaced : ℕ) : Type 0 where
  pub table : new.table ≡ old.table
  pub eps : new.eps ≡ old.eps
  pub awarded : IsAwarded old.table old.eps person old.prices new.prices new.holders old.owns new.owns displaced
  pub made : IsBidMade old.table old.eps (state_at old) (state_at new)

-- A free person takes an augmenting path, or stays free. Afterwards one person is free instead, or none.
pub record IsMove (person : ℕ) (old new : Position) (freed : ℕ) : Type 0 where
  pub table : new.table ≡ old.table
  pub eps : new.eps ≡ old.eps
  pub augmented : IsAugmented old.table old.eps person old.prices new.prices old.holders new.holders old.owns new.owns freed

-- bids, with paths between them; of the bids allowed, this number is left
pub record Spends (before left : ℕ) (old new : Position) : Type 0 where
  pub table : new.table ≡ old.table
  pub eps : new.eps ≡ old.eps
  pub spent : AreSpent old.table old.eps before left (state_at old) (state_at new)

-- The end of a chain. Each person who had an object has one, and so does the person who began the chain; or the bids
-- have run out; or a bid would be above the greatest price.
abbrev pub IsChain : ℕ → ℕ → Chain → Position → Position → Type 0
IsChain first left Chain.Placed old new = (n : ℕ) → n ≤ length new.table.rows → HaveAllBut n old.owns first NOBODY → HaveObjects n new.owns
IsChain first left Chain.Bids old new = left ≡ 0
IsChain first left Chain.Ceiling old new = IsAbove new.table new.eps new.prices new.owns

-- the first n persons have objects, but for one that waits; or a limit, as above
abbrev pub AreServed : ℕ → ℕ → ℕ → Chain → Position → Type 0
AreServed n left waits Chain.Placed new = (waits < length new.table.rows) × HaveAllBut n new.owns NOBODY waits
AreServed n left waits Chain.Bids new = left ≡ 0
AreServed n left waits Chain.Ceiling new = IsAbove new.table new.eps new.prices new.owns

-- all persons have objects; or a limit, as above
abbrev pub AreSold : ℕ → Chain → Position → Type 0
AreSold left Chain.Placed new = HaveObjects (length new.table.rows) new.owns
AreSold left Chain.Bids new = left ≡ 0
AreSold left Chain.Ceiling new = IsAbove new.table new.eps new.prices new.owns

-- ---- phases

-- a part of a phase, of at most this number of bids
pub record IsSlice (bids : ℕ) (ending : Ending) (old new : Position) : Type 0 where
  pub table : new.table ≡ old.table
  pub eps : new.eps ≡ old.eps
  pub ended : IsEnding old.table bids (state_at old) ending new.prices new.owns
  pub counted : AreCounted old.table old.eps bids ending (state_at old) (state_at new)
  pub above : ending ≡ Ending.Stopped Reason.Ceiling → IsAbove new.table new.eps new.prices new.owns

-- a phase of at most this number of bids, whole or in part
pub record IsTried (bids : ℕ) (old new : Position) : Type 0 where
  pub table : new.table ≡ old.table
  pub eps : new.eps ≡ old.eps
  pub phase : IsPhase old.table bids (state_at old) (state_at new)
  pub risen : total old.prices ≤ℤ total new.prices

-- such a phase and its ending; a watch may have stopped it
pub record IsPlayed (bids : ℕ) (before after : Bool) (ending : Ending) (old new : Position) : Type 0 where
  pub tried : IsTried bids old new
  pub sold : IsSold old.table ending new.owns
  pub ended : IsToldOr before after ending (IsEnding old.table bids (state_at old) ending new.prices new.owns)
  pub above : ending ≡ Ending.Stopped Reason.Ceiling → IsAbove new.table new.eps new.prices new.owns

-- The next phase begins at this eps: the prices stay, and no person holds an object. If each person held one, these
-- arcs become the incumbent.
pub record IsBegun (eps : ℤ) (old new : Position) : Type 0 where
  pub table : new.table ≡ old.table
  pub eps_is : new.eps ≡ eps
  pub prices : new.prices ≡ old.prices
  pub none : (i : ℕ) → (own_at new.owns i).object ≡ NOBODY
  pub incumbent : HaveObjects (length old.owns) old.owns → (new.has_incumbent ≡ true) × (new.incumbent ≡ old.owns)

-- What a market hands on at its end. Sold: its prices, holders and arcs. Stopped: the same prices, with the incumbent
-- if there is one, else with what is held.
abbrev pub AreHandedOn : Ending → Position → List ℤ → List ℕ → List ShortArc → Type 0
AreHandedOn Ending.Sold p prices holders owns = (prices ≡ p.prices) × (holders ≡ p.holders) × (owns ≡ p.owns)
AreHandedOn (Ending.Stopped reason) p prices holders owns =
    (prices ≡ p.prices) × ((eps : ℤ) × Stands p.table eps prices holders owns)
    × (p.has_incumbent ≡ true → owns ≡ p.incumbent)
