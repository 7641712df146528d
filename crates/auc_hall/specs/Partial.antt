-- A partial assignment, as its users see it.
use Rattle.std.specs.Prelude.{◌≡◌, ◌≢◌, ℕ, List, length, All, Contains, Option, Some, None, slice_index_or}
use Rattle.auc_graph.specs.declared.rows.RowArc.{RowArc}
use Rattle.auc_graph.specs.Table.{Table, row_of}

-- the arc of each person who has one, and the number of objects
pub record Placed : Type 0 where
  pub choice : List (Option RowArc)
  pub objects : ℕ

-- the arc of a person, if there is one
abbrev pub pick : List (Option RowArc) → ℕ → Option RowArc
pick choice i = slice_index_or choice i None

-- a partial assignment for these rows: each arc is in its person's row
pub record IsFor (t : Table) (p : Placed) : Type 0 where
  pub persons : length p.choice ≡ length t.rows
  pub objects : p.objects ≡ t.objects
  pub own : (i : ℕ) (a : RowArc) → pick p.choice i ≡ Some a → Contains (row_of t i) a

-- the person may get the arc of this number: it is in the person's row, the person has no arc, and the object is free
pub record MayPlace (t : Table) (choice : List (Option RowArc)) (person n : ℕ) (a : RowArc) : Type 0 where
  pub his : Contains (row_of t person) a
  pub numbered : a.arc ≡ n
  pub unplaced : pick choice person ≡ None
  pub untaken : (i : ℕ) (b : RowArc) → pick choice i ≡ Some b → b.object ≢ a.object

-- Why a person doesn't get an arc of this number: the person has an arc already, or no arc of the row has the number,
-- or another person holds the object. Exactly one of these holds.
pub data IsNotPlaced (t : Table) (choice : List (Option RowArc)) (person n : ℕ) : Type 0 where
  placed_already : (a : RowArc) → pick choice person ≡ Some a → IsNotPlaced t choice person n
  not_his : pick choice person ≡ None → All (λ a. a.arc ≢ n) (row_of t person) → IsNotPlaced t choice person n
  object_held : (a b : RowArc) (i : ℕ) → pick choice person ≡ None → Contains (row_of t person) a → a.arc ≡ n
      → pick choice i ≡ Some b → b.object ≡ a.object
      → IsNotPlaced t choice person n
