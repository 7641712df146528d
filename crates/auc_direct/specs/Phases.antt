-- How a run reaches its prices.
use Rattle.std.specs.Prelude.{ℕ, ℤ, pos, ◌≡◌, ◌⊎◌, List, length}
use Rattle.auc_rows.specs.Rows.{FlatTable}
use Rattle.auc_market.specs.declared.ending.Ending.{Ending}
use Rattle.auc_direct.specs.Adopted.{IsFullTable}
use Rattle.auc_market.specs.Bids.{State}
use Rattle.auc_market.specs.Market.{HaveObjects, Stands}
use Rattle.auc_market.specs.Phases.{IsRun}

-- a result that a search over a full table has proposed: each person has an object within 1 of the best, and no bid was
-- made
pub record IsAdopted (r : FlatTable) (t : State) : Type 0 where
  pub full : IsFullTable r
  pub stands : Stands r (pos 1) t.prices t.holders t.owns
  pub have : HaveObjects (length r.rows) t.owns

-- How a run reaches its last prices from the first ones: by phases; or, where all is sold, by a search over a full
-- table.
abbrev pub HasRun : FlatTable → ℕ → List ℤ → Ending → List ℤ → Type 0
HasRun r bids begun Ending.Sold prices = (last : State) × (last.prices ≡ prices) × (IsRun r bids begun last ⊎ IsAdopted r last)
HasRun r bids begun (Ending.Stopped reason) prices = (last : State) × (last.prices ≡ prices) × IsRun r bids begun last
