-- The phases of a run, one after another, and the steps between them.
use Rattle.std.specs.Prelude.{ℕ, ℤ, ◌≡◌, ◌⊎◌, List}
use Rattle.auc_rows.specs.Rows.{FlatTable}
use Rattle.auc_letters.specs.declared.limits.TheConstants.{NOBODY}
use Rattle.auc_market.specs.Bids.{AreMadeWithin, State}
use Rattle.auc_market.specs.Eps.{IsEpsOf}
use Rattle.auc_market.specs.Market.{Stands, own_at}

-- a phase of at most this number of bids, whole or in part
pub record IsPhase (r : FlatTable) (bids : ℕ) (s t : State) : Type 0 where
  pub eps : ℤ
  pub is_eps : IsEpsOf r eps
  pub stands : Stands r eps s.prices s.holders s.owns
  pub made : AreMadeWithin r eps bids s t

-- the opening of a phase: the prices stay, and no person has an object
pub record IsOpened (s t : State) : Type 0 where
  pub prices : t.prices ≡ s.prices
  pub none : (i : ℕ) → (own_at t.owns i).object ≡ NOBODY

-- phases of at most this number of bids each, one after another, each after an opening
pub data AreAnew (r : FlatTable) (bids : ℕ) (s : State) : State → Type 0 where
  begins : (t : State) → t ≡ s → AreAnew r bids s t
  plays : (t u v : State) → AreAnew r bids s t → IsOpened t u → IsPhase r bids u v → AreAnew r bids s v

-- The phases of a run. In the first one persons may keep what they hold at the start of the run. Each other one comes
-- after an opening, so no phase is cut in two that have as many bids each.
pub record ArePhases (r : FlatTable) (bids : ℕ) (s t : State) : Type 0 where
  pub kept : State
  pub first : (kept ≡ s) ⊎ IsPhase r bids s kept
  pub anew : AreAnew r bids kept t

-- where a phase of a run may begin: at the start of the run, or after an opening
abbrev pub IsReady : FlatTable → ℕ → State → State → Type 0
IsReady r bids s t = (t ≡ s) ⊎ ((u : State) × ArePhases r bids s u × IsOpened u t)

-- such phases lead from these prices to a state
pub record IsRun (r : FlatTable) (bids : ℕ) (begun : List ℤ) (last : State) : Type 0 where
  pub first : State
  pub begun_are : first.prices ≡ begun
  pub phases : ArePhases r bids first last
