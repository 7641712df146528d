-- Assignments of a problem, and which of them cost least.
use Rattle.std.specs.Prelude.{◌≡◌, ℕ, nat_eq, List, [], ◌∷◌, map, All, Contains, ℤ, pos, ◌+ℤ◌, ◌≤ℤ◌}
use Rattle.std.specs.List.{IsDistinct, range_with_len}
use Rattle.auc_graph.specs.declared.arc.Arc.{Arc}
use Rattle.auc_graph.specs.Problem.{Problem}

-- the sum of some numbers
abbrev pub total : List ℤ → ℤ
total [] = pos 0
total (z ∷ zs) = z +ℤ total zs

abbrev pub person_of : Arc → ℕ
person_of a = a.person

abbrev pub object_of : Arc → ℕ
object_of a = a.object

abbrev pub cost_of : Arc → ℤ
cost_of a = a.cost

abbrev pub total_cost : List Arc → ℤ
total_cost arcs = total (map cost_of arcs)

-- an assignment: one arc of the problem for each person, in the persons' order, and no object twice
pub record IsAssignment (p : Problem) (choice : List Arc) : Type 0 where
  pub persons : map person_of choice ≡ range_with_len 0 p.persons
  pub arcs : All (Contains p.arcs) choice
  pub objects : IsDistinct nat_eq (map object_of choice)

-- a least-cost assignment: no assignment of the problem costs less
pub record IsLeast (p : Problem) (choice : List Arc) : Type 0 where
  pub assignment : IsAssignment p choice
  pub least : (other : List Arc) → IsAssignment p other → total_cost choice ≤ℤ total_cost other
