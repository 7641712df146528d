-- Hall sets (Hall violators) by the rows of a table.
use Rattle.std.specs.Prelude.{◌≡◌, ℕ, ◌<◌, List, length, Contains}
use Rattle.auc_graph.specs.declared.rows.RowArc.{RowArc}
use Rattle.auc_graph.specs.Table.{Table, row_of}
use Rattle.auc_graph.specs.Rising.{IsRising}

-- the person has an arc to the object
abbrev pub Knows : Table → ℕ → ℕ → Type 0
Knows t person object = (a : RowArc) × Contains (row_of t person) a × (a.object ≡ object)

-- a Hall set: the objects are exactly those to which the persons have arcs, and fewer than the persons; both lists rise
pub record IsRowHallSet (t : Table) (persons objects : List ℕ) : Type 0 where
  pub within : (i : ℕ) → Contains persons i → i < length t.rows
  pub persons_rise : IsRising persons
  pub objects_rise : IsRising objects
  pub all : (i j : ℕ) → Contains persons i → Knows t i j → Contains objects j
  pub only : (j : ℕ) → Contains objects j → (i : ℕ) × Contains persons i × Knows t i j
  pub fewer : length objects < length persons
