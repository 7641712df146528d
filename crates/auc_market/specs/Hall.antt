-- Hall sets by the rows of a flat table, and the flags from which they are read.
use Rattle.std.specs.Prelude.{◌≡◌, ◌⊎◌, ℕ, ◌<◌, Bool, List, length, Contains, Some, slice_get}
use Rattle.auc_graph.specs.Rising.{IsRising}
use Rattle.auc_hall.specs.Search.{WasSeen}
use Rattle.auc_rows.specs.declared.arc.ShortArc.{ShortArc}
use Rattle.auc_rows.specs.Rows.{FlatTable, flat_row_of}

-- the person has an arc to the object
abbrev pub KnowsShort : FlatTable → ℕ → ℕ → Type 0
KnowsShort r person object = (s : ShortArc) × Contains (flat_row_of r person) s × (s.object ≡ object)

-- a Hall set: the objects are exactly those to which the persons have arcs, and fewer than the persons
pub record IsShortHallSet (r : FlatTable) (persons objects : List ℕ) : Type 0 where
  pub within : (i : ℕ) → Contains persons i → i < length r.rows
  pub persons_rise : IsRising persons
  pub objects_rise : IsRising objects
  pub all : (i j : ℕ) → Contains persons i → KnowsShort r i j → Contains objects j
  pub only : (j : ℕ) → Contains objects j → (i : ℕ) × Contains persons i × KnowsShort r i j
  pub fewer : length objects < length persons

-- ---- by flags

-- flags are set for the objects of the first n arcs of a row, and earlier flags stay
pub record AreAdded (row : List ShortArc) (n : ℕ) (old new : List Bool) : Type 0 where
  pub size : length new ≡ length old
  pub stay : (j : ℕ) → WasSeen old j → WasSeen new j
  pub each : (k : ℕ) (s : ShortArc) → k < n → slice_get row k ≡ Some s → WasSeen new s.object
  pub only : (j : ℕ) → WasSeen new j → WasSeen old j ⊎ ((s : ShortArc) × Contains row s × (s.object ≡ j))

-- flags are set for exactly the objects to which a flagged person among the first n has an arc
pub record AreKnownTo (r : FlatTable) (is_in : List Bool) (n : ℕ) (seen : List Bool) : Type 0 where
  pub size : length seen ≡ r.objects
  pub all : (i j : ℕ) → i < n → WasSeen is_in i → KnowsShort r i j → WasSeen seen j
  pub only : (j : ℕ) → WasSeen seen j → (i : ℕ) × (i < n) × WasSeen is_in i × KnowsShort r i j
