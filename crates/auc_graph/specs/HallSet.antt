-- Hall sets, also called Hall violators: persons whose arcs lead to fewer objects than there are of these persons.
use Rattle.std.specs.Prelude.{ℕ, ◌<◌, List, length, Contains, nat_eq}
use Rattle.std.specs.List.{IsDistinct}
use Rattle.auc_graph.specs.declared.arc.Arc.{Arc}
use Rattle.auc_graph.specs.Problem.{Problem}

-- Distinct persons of the problem, and a list with each object to which an arc of these persons leads. The list has
-- fewer objects than there are of these persons.
pub record IsHallSet (p : Problem) (persons objects : List ℕ) : Type 0 where
  pub within : (i : ℕ) → Contains persons i → i < p.persons
  pub different : IsDistinct nat_eq persons
  pub all : (a : Arc) → Contains p.arcs a → Contains persons a.person → Contains objects a.object
  pub fewer : length objects < length persons
