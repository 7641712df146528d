-- What shows that each person has an object of its own.
use Rattle.std.specs.Prelude.{◌≡◌, ℕ, List, Contains, Option, Some}
use Rattle.auc_graph.specs.declared.rows.RowArc.{RowArc}
use Rattle.auc_graph.specs.Table.{Table, row_of}
use Rattle.auc_hall.specs.Assignment.{IsRowAssignment}
use Rattle.auc_hall.specs.Matched.{holder_of}

-- there is an assignment by these rows
abbrev pub HasRowAssignment : Table → Type 0
HasRowAssignment t = (choice : List RowArc) × IsRowAssignment t choice

-- the person has an arc to an object, and holds it
pub record HoldsOne (t : Table) (holder : List (Option ℕ)) (person : ℕ) : Type 0 where
  pub arc : RowArc
  pub own : Contains (row_of t person) arc
  pub held : holder_of holder arc.object ≡ Some person
