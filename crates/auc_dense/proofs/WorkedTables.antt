-- The problems of some small tables, computed by the definitions.
use Rattle.std.proofs.Common.{◌≡◌, ◌^◌, List, [], ◌∷◌, refl, Some, None}
use Rattle.std.specs.Prelude.{pos, neg_ℤ, ℤ}
use Rattle.auc_graph.specs.declared.list_faults.ListFault.TheVariants.{Persons, Objects, Cost}
use Rattle.auc_graph.specs.Reading.{arc_of}
use Rattle.auc_dense.specs.Naming.{objects_at}
use Rattle.auc_dense.specs.Table.{table_arcs, table_fault, table_problem}

abbrev gap : ℤ
gap = pos 99

-- a place that no row has
abbrev unseen : ℤ
unseen = pos (10 ^ 12)

-- two rows of three entries, with a place between them
abbrev wide : List ℤ
wide = pos 1 ∷ gap ∷ neg_ℤ (pos 4) ∷ unseen ∷ gap ∷ pos 5 ∷ pos 6 ∷ []

rows_of_wide : table_arcs 3 wide 4 gap 2 ≡ arc_of 0 0 (pos 1) ∷ arc_of 0 2 (neg_ℤ (pos 4)) ∷ arc_of 1 1 (pos 5) ∷ arc_of 1 2 (pos 6) ∷ []
rows_of_wide = refl

-- without a number that stands for a gap all are entries
all_of_wide : (table_problem 1 3 wide 4 (pos 7)).arcs ≡ arc_of 0 0 (pos 1) ∷ arc_of 0 1 gap ∷ arc_of 0 2 (neg_ℤ (pos 4)) ∷ []
all_of_wide = refl

-- places of arcs, and what objects these are
objects_of_wide : objects_at (table_arcs 3 wide 4 gap 2) (1 ∷ 2 ∷ []) ≡ 2 ∷ 1 ∷ []
objects_of_wide = refl

-- as many objects as persons
square : (table_problem 2 0 (pos 1 ∷ pos 2 ∷ pos 3 ∷ pos 4 ∷ []) 2 gap).arcs ≡ arc_of 0 0 (pos 1) ∷ arc_of 0 1 (pos 2) ∷ arc_of 1 0 (pos 3) ∷ arc_of 1 1 (pos 4) ∷ []
square = refl

no_fault : table_fault (table_problem 2 3 wide 4 gap) ≡ None
no_fault = refl

-- the second arc is at fault; its entry is the second one of the second row of three
far_cost : table_fault (table_problem 2 3 (pos 1 ∷ gap ∷ gap ∷ unseen ∷ gap ∷ unseen ∷ pos 6 ∷ []) 4 gap) ≡ Some (Cost 4)
far_cost = refl

-- a gap has no cost
far_gap : table_fault (table_problem 2 3 (pos 1 ∷ gap ∷ gap ∷ unseen ∷ gap ∷ unseen ∷ pos 6 ∷ []) 4 unseen) ≡ None
far_gap = refl

few_objects : table_fault (table_problem 2 1 wide 4 gap) ≡ Some Objects
few_objects = refl

no_persons : table_fault (table_problem 0 3 [] 3 gap) ≡ Some Persons
no_persons = refl
