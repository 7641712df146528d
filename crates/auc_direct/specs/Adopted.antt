-- Full tables, which have an arc for each pair of a person and an object.
use Rattle.std.specs.Prelude.{Bool, true, ℕ, pos, ◌≡◌, ◌<◌, List, length, slice_index_or}
use Rattle.auc_rows.specs.declared.arc.ShortArc.{ShortArc}
use Rattle.auc_rows.specs.Rows.{FlatTable, flat_row_of}
use Rattle.auc_market.specs.declared.holdings.Holdings.{Holdings}
use Rattle.auc_market.specs.Market.{HaveObjects, Stands}
use Rattle.auc_market.specs.Scan.{no_arc}
use Rattle.auc_direct.specs.declared.adopt.Searched.{Searched}

-- a full row: one arc to each of this number of objects, in order
pub record IsFullRow (objects : ℕ) (row : List ShortArc) : Type 0 where
  pub many : length row ≡ objects
  pub each : (k : ℕ) → k < objects → (slice_index_or row k no_arc).object ≡ k

-- each person has exactly one arc to each object, in order
abbrev pub IsFullTable : FlatTable → Type 0
IsFullTable r = (i : ℕ) → i < length r.rows → IsFullRow r.objects (flat_row_of r i)

-- what a search over a full table has found: each person has an object within 1 of the best
pub record AreFound (r : FlatTable) (found : Holdings) : Type 0 where
  pub stands : Stands r (pos 1) found.prices.items found.holders.items found.owns.items
  pub have : HaveObjects (length r.rows) found.owns.items
  pub full : IsFullTable r

-- what such a search under a watch has come to: after a no nothing, else the watch's flag is as before; where an
-- assignment was found, the watch was asked
abbrev pub IsSearched : FlatTable → Bool → Bool → Bool → Searched → Type 0
IsSearched r before after asked (Searched.Adopted found) = AreFound r found × (after ≡ before) × (asked ≡ true)
IsSearched r before after asked Searched.Ended = (after ≡ true) × (asked ≡ true)
IsSearched r before after asked Searched.Nothing = after ≡ before
