-- Assignments and Hall sets by the arcs of a problem, without its rows.
use Rattle.std.specs.Prelude.{◌≡◌, ℕ, List, map, Contains, Some, slice_get}
use Rattle.auc_graph.specs.declared.arc.Arc.{Arc}
use Rattle.auc_graph.specs.Problem.{Problem}
use Rattle.auc_graph.specs.Assignment.{IsAssignment}
use Rattle.auc_graph.specs.HallSet.{IsHallSet}
use Rattle.auc_graph.specs.Rising.{IsRising}

-- the arcs at these places of the problem's list are an assignment
pub record IsFullOf (p : Problem) (numbers : List ℕ) : Type 0 where
  pub choice : List Arc
  pub assigned : IsAssignment p choice
  pub arcs_are : map (slice_get p.arcs) numbers ≡ map Some choice

-- each object is the end of an arc of one of the persons
abbrev pub AreKnown : Problem → List ℕ → List ℕ → Type 0
AreKnown p persons objects = (j : ℕ) → Contains objects j → (a : Arc) × Contains p.arcs a × Contains persons a.person × (a.object ≡ j)

-- a Hall set with exactly the objects to which its persons have arcs, both lists in rising order
pub record IsHallSetOf (p : Problem) (persons objects : List ℕ) : Type 0 where
  pub set : IsHallSet p persons objects
  pub known : AreKnown p persons objects
  pub persons_rise : IsRising persons
  pub objects_rise : IsRising objects
