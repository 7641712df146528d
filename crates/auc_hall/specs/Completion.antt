-- How a completion grows from a partial assignment by augmenting paths.
use Rattle.std.specs.Prelude.{◌≡◌, ◌≢◌, ℕ, ◌<◌, List, length, map, Contains, Option, Some, None, slice_set, ⊤}
use Rattle.auc_graph.specs.declared.rows.RowArc.{RowArc}
use Rattle.auc_graph.specs.Table.{Table, row_of}
use Rattle.auc_hall.specs.declared.matching.Matching.{Matching}
use Rattle.auc_hall.specs.declared.matching.Matching.TheVariants.{Full, Hall}
use Rattle.auc_hall.specs.Assignment.{number_of}
use Rattle.auc_hall.specs.Chosen.{chosen}
use Rattle.auc_hall.specs.Matched.{IsPlaced}
use Rattle.auc_hall.specs.Partial.{pick}

-- no person has this object
abbrev pub IsUntaken : List (Option RowArc) → ℕ → Type 0
IsUntaken choice j = (i : ℕ) (b : RowArc) → pick choice i ≡ Some b → b.object ≢ j

-- The exchange along an augmenting path, from its end. Object j, which no person has, goes to a person without an arc.
-- Or it goes to a person who gives up another object for it, and that object is taken in the same way.
pub data IsExchange (t : Table) (after : List (Option RowArc)) : List (Option RowArc) → ℕ → Type 0 where
  takes_free : (choice : List (Option RowArc)) (j i : ℕ) (a : RowArc) → IsUntaken choice j → Contains (row_of t i) a
      → a.object ≡ j → pick choice i ≡ None → after ≡ slice_set choice i (Some a) → IsExchange t after choice j
  takes_over : (choice : List (Option RowArc)) (j i : ℕ) (a b : RowArc) → IsUntaken choice j → Contains (row_of t i) a
      → a.object ≡ j → pick choice i ≡ Some b → IsExchange t after (slice_set choice i (Some a)) b.object
      → IsExchange t after choice j

-- some exchanges lead from one partial assignment to another; each gives an arc to one more person
pub data IsGrown (t : Table) (after : List (Option RowArc)) : List (Option RowArc) → Type 0 where
  stays : (choice : List (Option RowArc)) → after ≡ choice → IsGrown t after choice
  grows : (choice between : List (Option RowArc)) (j : ℕ) → IsExchange t between choice j → IsGrown t after between → IsGrown t after choice

-- each person has an arc
abbrev pub AreAllPlaced : Table → List (Option RowArc) → Type 0
AreAllPlaced t choice = (i : ℕ) → i < length t.rows → IsPlaced choice i

-- the numbers of the arcs of an assignment that has grown from this partial one until each person had an arc
pub record IsGrownTo (t : Table) (choice : List (Option RowArc)) (arcs : List ℕ) : Type 0 where
  pub after : List (Option RowArc)
  pub grown : IsGrown t after choice
  pub all : AreAllPlaced t after
  pub numbers : arcs ≡ map number_of (chosen after)

-- if the result is an assignment, it has grown from this partial one
abbrev pub HasGrown : Table → List (Option RowArc) → Matching → Type 0
HasGrown t choice (Full arcs) = IsGrownTo t choice arcs
HasGrown t choice (Hall persons objects) = ⊤
