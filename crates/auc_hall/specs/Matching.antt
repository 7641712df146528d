-- The answer of a completion.
use Rattle.std.specs.Prelude.{⊤}
use Rattle.auc_graph.specs.Problem.{Problem}
use Rattle.auc_graph.specs.Table.{Table}
use Rattle.auc_hall.specs.declared.matching.Matching.{Matching}
use Rattle.auc_hall.specs.declared.matching.Matching.TheVariants.{Full, Hall}
use Rattle.auc_hall.specs.Assignment.{IsFull}
use Rattle.auc_hall.specs.HallSet.{IsRowHallSet}
use Rattle.auc_hall.specs.OfProblem.{IsFullOf, IsHallSetOf}

-- an assignment by these rows, or a Hall set of them
abbrev pub IsMatching : Table → Matching → Type 0
IsMatching t (Full arcs) = IsFull t arcs
IsMatching t (Hall persons objects) = IsRowHallSet t persons objects

-- the answer is a Hall set
abbrev pub IsHall : Matching → Type 0
IsHall (Full arcs) = ⊥
IsHall (Hall persons objects) = ⊤

-- an assignment of the problem, or a Hall set of it
abbrev pub IsMatchingOf : Problem → Matching → Type 0
IsMatchingOf p (Full arcs) = IsFullOf p arcs
IsMatchingOf p (Hall persons objects) = IsHallSetOf p persons objects
