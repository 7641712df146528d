-- The rows of a problem, with arcs of eight bytes.
use Rattle.std.specs.Prelude.{ℕ, ℤ, pos, ◌≡◌, ◌<◌, ◌≤◌, ◌+◌, ◌*◌, ◌^◌, neg_ℤ, ◌≤ℤ◌, List, [], length, map, All, slice_index_or}
use Rattle.auc_graph.specs.declared.arc.Arc.{Arc}
use Rattle.auc_graph.specs.declared.limits.TheConstants.{MOST_ARCS, MOST_COST, MOST_OBJECTS, MOST_PERSONS}
use Rattle.auc_graph.specs.declared.rows.RowArc.{RowArc}
use Rattle.auc_graph.specs.Problem.{Problem}
use Rattle.auc_graph.specs.Row.{row}
use Rattle.auc_graph.specs.Table.{IsTableOf, Table, row_of}
use Rattle.auc_rows.specs.declared.arc.ShortArc.{ShortArc}

-- an arc of a row without its place in the problem's list
abbrev pub short : RowArc → ShortArc
short a = record { object = a.object; cost = a.cost }

-- an arc in a table with this number of objects: its object and its cost are in range
pub record IsShort (objects : ℕ) (s : ShortArc) : Type 0 where
  pub object : s.object < objects
  pub low : neg_ℤ MOST_COST ≤ℤ s.cost
  pub high : s.cost ≤ℤ MOST_COST

-- the number of objects, the spread of the costs, and a row for each person
pub record FlatTable : Type 0 where
  pub objects : ℕ
  pub spread : ℤ
  pub rows : List (List ShortArc)

abbrev pub flat_row_of : FlatTable → ℕ → List ShortArc
flat_row_of r i = slice_index_or r.rows i []

-- the factor that scales costs: one more than the number of persons
abbrev pub scale_in : FlatTable → ℤ
scale_in r = pos (length r.rows + 1)

-- each person has an arc
abbrev pub EachHasArc : FlatTable → Type 0
EachHasArc r = (i : ℕ) → i < length r.rows → 0 < length (flat_row_of r i)

-- the limits of the rows of each problem
pub record IsFlatTable (r : FlatTable) : Type 0 where
  pub some : 1 ≤ length r.rows
  pub most : length r.rows ≤ MOST_PERSONS
  pub enough : length r.rows ≤ r.objects
  pub most_objects : r.objects ≤ MOST_OBJECTS
  pub low : pos 0 ≤ℤ r.spread
  pub high : r.spread ≤ℤ pos (2 * 10 ^ 9)
  pub each : (i : ℕ) → All (IsShort r.objects) (flat_row_of r i)
  pub few : (i : ℕ) → length (flat_row_of r i) ≤ MOST_ARCS

-- ---- of a problem

-- the row of a person: its arcs, in the order of the problem's list
abbrev pub short_row : ℕ → List Arc → List ShortArc
short_row i arcs = map short (row i arcs)

-- the same rows as in the other form
pub record AreSameRows (t : Table) (r : FlatTable) : Type 0 where
  pub objects : r.objects ≡ t.objects
  pub persons : length r.rows ≡ length t.rows
  pub spread : r.spread ≡ t.spread
  pub rows : (i : ℕ) → i < length t.rows → flat_row_of r i ≡ map short (row_of t i)

-- the rows of this problem
pub record AreRowsOf (p : Problem) (r : FlatTable) : Type 0 where
  pub table : Table
  pub of : IsTableOf p table
  pub same : AreSameRows table r
