-- A partial assignment, kept both by persons and by objects.
use Rattle.std.specs.Prelude.{◌≡◌, ℕ, List, length, Contains, Option, Some, None, slice_index_or}
use Rattle.auc_graph.specs.declared.rows.RowArc.{RowArc}
use Rattle.auc_graph.specs.Table.{Table, row_of}
use Rattle.auc_hall.specs.Partial.{pick}

-- the holder of an object
abbrev pub holder_of : List (Option ℕ) → ℕ → Option ℕ
holder_of holder j = slice_index_or holder j None

-- the person has an arc
abbrev pub IsPlaced : List (Option RowArc) → ℕ → Type 0
IsPlaced choice i = (a : RowArc) × (pick choice i ≡ Some a)

-- the person has an arc to this object
pub record HasObject (choice : List (Option RowArc)) (i j : ℕ) : Type 0 where
  pub arc : RowArc
  pub picked : pick choice i ≡ Some arc
  pub object : arc.object ≡ j

-- Both sides agree: each person with an arc holds its object, and each holder of an object has an arc to it. So no
-- object has two holders.
pub record AreTied (choice : List (Option RowArc)) (holder : List (Option ℕ)) : Type 0 where
  pub taken : (i : ℕ) (a : RowArc) → pick choice i ≡ Some a → holder_of holder a.object ≡ Some i
  pub held : (j i : ℕ) → holder_of holder j ≡ Some i → HasObject choice i j

-- a partial assignment by these rows, kept both by persons and by objects: each arc is in its person's row
pub record IsMatched (t : Table) (choice : List (Option RowArc)) (holder : List (Option ℕ)) : Type 0 where
  pub persons : length choice ≡ length t.rows
  pub objects : length holder ≡ t.objects
  pub own : (i : ℕ) (a : RowArc) → pick choice i ≡ Some a → Contains (row_of t i) a
  pub tied : AreTied choice holder
