-- The assignment problem in sparse form.
use Rattle.std.specs.Prelude.{◌≡◌, ℕ, ◌≤◌, ◌<◌, List, length, All, neg_ℤ, ◌≤ℤ◌}
use Rattle.auc_graph.specs.declared.arc.Arc.{Arc}
use Rattle.auc_graph.specs.declared.limits.TheConstants.{MOST_PERSONS, MOST_OBJECTS, MOST_ARCS, MOST_COST}

pub record Problem : Type 0 where
  pub persons : ℕ
  pub objects : ℕ
  pub arcs : List Arc

-- an arc within a problem with these numbers of persons and objects: both ends exist, and the cost is in range
pub record IsWithin (persons objects : ℕ) (arc : Arc) : Type 0 where
  pub person : arc.person < persons
  pub object : arc.object < objects
  pub low : neg_ℤ MOST_COST ≤ℤ arc.cost
  pub high : arc.cost ≤ℤ MOST_COST

-- The limits of each problem. There may be more objects than persons.
pub record IsProblem (p : Problem) : Type 0 where
  pub some : 1 ≤ p.persons
  pub most : p.persons ≤ MOST_PERSONS
  pub enough : p.persons ≤ p.objects
  pub most_objects : p.objects ≤ MOST_OBJECTS
  pub few : length p.arcs ≤ MOST_ARCS
  pub within : All (IsWithin p.persons p.objects) p.arcs

-- there are as many objects as persons
abbrev pub IsSquare : Problem → Type 0
IsSquare p = p.objects ≡ p.persons
