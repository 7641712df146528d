-- The incumbent: the arcs by which the persons held objects when each had one last.
use Rattle.std.specs.Prelude.{ℕ, true, ◌≡◌, ◌≢◌, ◌<◌, ◌⊎◌, List, length, Contains}
use Rattle.auc_rows.specs.declared.arc.ShortArc.{ShortArc}
use Rattle.auc_rows.specs.Rows.{FlatTable, flat_row_of}
use Rattle.auc_market.specs.declared.holdings.Holdings.{Holdings}
use Rattle.auc_letters.specs.declared.limits.TheConstants.{NOBODY}
use Rattle.auc_market.specs.declared.incumbent.Incumbent.{Incumbent}
use Rattle.auc_market.specs.Market.{holder_at, own_at}

-- arcs of different persons lead to different objects, below this number
pub record AreApart (objects : ℕ) (owns : List ShortArc) : Type 0 where
  pub below : (i : ℕ) → (own_at owns i).object ≢ NOBODY → (own_at owns i).object < objects
  pub apart : (i k : ℕ) → (own_at owns i).object ≢ NOBODY → (own_at owns k).object ≡ (own_at owns i).object → k ≡ i

-- each object's holder has it, and each of the first n persons with an object is its holder
pub record AreTaken (n : ℕ) (holders : List ℕ) (owns : List ShortArc) : Type 0 where
  pub held : (j : ℕ) → holder_at holders j ≢ NOBODY → (own_at owns (holder_at holders j)).object ≡ j
  pub holds : (i : ℕ) → i < n → (own_at owns i).object ≢ NOBODY → holder_at holders (own_at owns i).object ≡ i

-- arcs of the persons' rows to different objects
pub record AreSeats (r : FlatTable) (owns : List ShortArc) : Type 0 where
  pub apart : AreApart r.objects owns
  pub listed : (i : ℕ) → (own_at owns i).object ≢ NOBODY → Contains (flat_row_of r i) (own_at owns i)

-- a place for each person; and, where there is an incumbent, such arcs
pub record IsIncumbent (r : FlatTable) (i : Incumbent) : Type 0 where
  pub owns_are : length i.owns.items ≡ length r.rows
  pub seats : i.is_whole ≡ true → (r.objects ≡ length r.rows) × AreSeats r i.owns.items

-- prices and holders stay; nothing else has changed either, or the incumbent is now what was held
pub record AreSetAside (old : Holdings) (before : Incumbent) (new : Holdings) (after : Incumbent) : Type 0 where
  pub prices : new.prices ≡ old.prices
  pub holders : new.holders ≡ old.holders
  pub either : ((new.owns ≡ old.owns) × (after ≡ before)) ⊎ ((after.owns ≡ old.owns) × (new.owns ≡ before.owns))

-- nobody holds anything, and these arcs lead to different objects
pub record MayTakeUp (holders : List ℕ) (owns : List ShortArc) : Type 0 where
  pub blank : (j : ℕ) → holder_at holders j ≡ NOBODY
  pub apart : AreApart (length holders) owns

-- each person holds the object of these arcs, at the prices before
pub record AreTakenUp (owns : List ShortArc) (old new : Holdings) : Type 0 where
  pub prices : new.prices.items ≡ old.prices.items
  pub owns_are : new.owns.items ≡ owns
  pub many : length new.holders.items ≡ length old.holders.items
  pub taken : AreTaken (length owns) new.holders.items owns
