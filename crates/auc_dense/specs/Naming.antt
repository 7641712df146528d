-- Which objects the arcs at some places lead to.
use Rattle.std.specs.Prelude.{◌≡◌, ℕ, get_or, List, map}
use Rattle.auc_graph.specs.declared.arc.Arc.{Arc}
use Rattle.auc_call.specs.Memory.{no_arc}

abbrev pub object_at : List Arc → ℕ → ℕ
object_at arcs place = (get_or arcs place no_arc).object

-- the objects of the arcs at these places
abbrev pub objects_at : List Arc → List ℕ → List ℕ
objects_at arcs places = map (object_at arcs) places

-- This holds of places at which arcs to these objects stand.
pub record ByObjects (arcs : List Arc) (objects : List ℕ) (Holds : List ℕ → Type 0) : Type 0 where
  pub places : List ℕ
  pub objects_are : objects ≡ objects_at arcs places
  pub holds : Holds places
