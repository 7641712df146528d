-- What is found of a table without its arcs.
use Rattle.std.specs.Prelude.{Bool, true, ◌≡◌, ◌⊎◌, ◌≤◌, ℕ, ℤ, List, [], length}
use Rattle.auc_table.specs.declared.table.Table.{Table}
use Rattle.auc_dense.specs.declared.quick.Quick.{Quick}
use Rattle.auc_dense.specs.declared.quick.Quick.TheVariants.{Assigned, Short}
use Rattle.auc_dense.specs.Bidding.{HaveBid}
use Rattle.auc_dense.specs.Shortage.{ShowShortage}
use Rattle.auc_dense.specs.Tried.{IsShown}

-- an assignment at these prices, a least one or, where that may be, one with a bound; or persons who know too few
-- objects
abbrev pub IsQuick : Table → ℤ → Bool → List ℤ → Quick → Type 0
IsQuick t gap may prices (Assigned found) =
    (found.prices.items ≡ prices)
    × IsShown t.persons t.objects t.costs.now t.stride gap may prices found.picks.items found.solved
IsQuick t gap may prices (Short short) =
    (length short.persons.items ≤ t.persons)
    × ShowShortage t.persons t.objects t.costs.now t.stride gap short.persons.items short.objects.items

-- A bound is left only after the watch has said no, or after so many bids from prices of 0.
pub record IsFound (t : Table) (gap : ℤ) (start : List ℤ) (bids : ℕ) (stopped : Bool) (quick : Quick) : Type 0 where
  pub may : Bool
  pub prices : List ℤ
  pub quick_is : IsQuick t gap may prices quick
  pub cause : may ≡ true
      → (stopped ≡ true) ⊎ ((start ≡ []) × HaveBid t.persons t.objects t.costs.now t.stride gap bids prices)
