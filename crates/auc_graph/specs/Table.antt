-- The rows of a problem, one for each person.
use Rattle.std.specs.Prelude.{◌≡◌, ℕ, ◌*◌, ◌≤◌, ◌<◌, ◌^◌, List, [], length, map, slice_index_or, All, AllPairs, ℤ, pos, neg_ℤ, ◌≤ℤ◌}
use Rattle.std.specs.List.{range_with_len}
use Rattle.auc_graph.specs.declared.rows.RowArc.{RowArc}
use Rattle.auc_graph.specs.declared.limits.TheConstants.{MOST_PERSONS, MOST_OBJECTS, MOST_ARCS, MOST_COST}
use Rattle.auc_graph.specs.Problem.{Problem}
use Rattle.auc_graph.specs.Row.{row, IsSpread}

-- a row for each person; the number of objects, and the spread of the costs
pub record Table : Type 0 where
  pub objects : ℕ
  pub spread : ℤ
  pub rows : List (List RowArc)

abbrev pub row_of : Table → ℕ → List RowArc
row_of t person = slice_index_or t.rows person []

-- an arc of a row in a table with this number of objects: object, cost and place are in range
pub record IsRowArc (objects : ℕ) (a : RowArc) : Type 0 where
  pub object : a.object < objects
  pub low : neg_ℤ MOST_COST ≤ℤ a.cost
  pub high : a.cost ≤ℤ MOST_COST
  pub place : a.arc < MOST_ARCS

pub record IsRow (objects : ℕ) (arcs : List RowArc) : Type 0 where
  pub within : All (IsRowArc objects) arcs
  pub rising : AllPairs (λ a b. a.arc < b.arc) arcs
  pub few : length arcs ≤ MOST_ARCS

-- The limits of the rows of each problem. There may be more objects than persons.
pub record IsTable (t : Table) : Type 0 where
  pub some : 1 ≤ length t.rows
  pub most : length t.rows ≤ MOST_PERSONS
  pub enough : length t.rows ≤ t.objects
  pub most_objects : t.objects ≤ MOST_OBJECTS
  pub low : pos 0 ≤ℤ t.spread
  pub high : t.spread ≤ℤ pos (2 * 10 ^ 9)
  pub each : All (IsRow t.objects) t.rows

-- the rows of this problem
pub record IsTableOf (p : Problem) (t : Table) : Type 0 where
  pub objects : t.objects ≡ p.objects
  pub rows : t.rows ≡ map (λ person. row person p.arcs) (range_with_len 0 p.persons)
  pub spread : IsSpread p.arcs t.spread
