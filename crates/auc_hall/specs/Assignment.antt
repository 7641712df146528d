-- Assignments by the rows of a problem.
use Rattle.std.specs.Prelude.{◌≡◌, ℕ, List, length, map, Contains, Some, slice_get}
use Rattle.auc_graph.specs.declared.rows.RowArc.{RowArc}
use Rattle.auc_graph.specs.Table.{Table, row_of}

abbrev pub number_of : RowArc → ℕ
number_of a = a.arc

-- an arc of each person, in order, and no object twice
pub record IsRowAssignment (t : Table) (choice : List RowArc) : Type 0 where
  pub persons : length choice ≡ length t.rows
  pub own : (i : ℕ) (a : RowArc) → slice_get choice i ≡ Some a → Contains (row_of t i) a
  pub objects : (i k : ℕ) (a b : RowArc) → slice_get choice i ≡ Some a → slice_get choice k ≡ Some b → a.object ≡ b.object → i ≡ k

-- the numbers of the arcs of an assignment
pub record IsFull (t : Table) (arcs : List ℕ) : Type 0 where
  pub choice : List RowArc
  pub assigned : IsRowAssignment t choice
  pub numbers_are : arcs ≡ map number_of choice
