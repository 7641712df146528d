-- Which lists of arcs are problems, and otherwise the first fault, in the order in which a text of the list would be
-- read.
use Rattle.std.specs.Prelude.{ℕ, suc, not, ◌==◌, ◌&&◌, nat_le, if◌then◌else◌, List, [], ◌∷◌, Option, Some, None, Result, Ok, Err, neg_ℤ}
use Rattle.std.specs.Option.{option_or}
use Rattle.auc_graph.specs.declared.arc.Arc.{Arc}
use Rattle.auc_graph.specs.declared.list_faults.ListFault.{ListFault}
use Rattle.auc_graph.specs.declared.list_faults.ListFault.TheVariants.{Persons, Objects, TooManyArcs, Person, Object, Cost}
use Rattle.auc_graph.specs.declared.limits.TheConstants.{MOST_PERSONS, MOST_OBJECTS, MOST_ARCS, MOST_COST}
use Rattle.auc_graph.specs.Problem.{Problem}
use Rattle.auc_graph.specs.Reading.{is_between, problem}

-- the number of objects, where 0 means as many as persons
abbrev pub objects_or : ℕ → ℕ → ℕ
objects_or wanted persons = if wanted == 0 then persons else wanted

-- the problem with this number of persons, this number of objects wanted, and these arcs
abbrev pub problem_from : ℕ → ℕ → List Arc → Problem
problem_from persons wanted arcs = problem persons (objects_or wanted persons) arcs

-- the fault of the arc at this place of the list, if it has one
abbrev pub fault_at : ℕ → ℕ → ℕ → Arc → Option ListFault
fault_at persons objects place a =
    if nat_le MOST_ARCS place then Some TooManyArcs else
    (if nat_le persons a.person then Some (Person place) else (if nat_le objects a.object then Some (Object place)
    else (if is_between (neg_ℤ MOST_COST) MOST_COST a.cost then None else Some (Cost place))))

-- the first fault of some arcs, where the first of them is at this place of the list
abbrev pub first_fault : ℕ → ℕ → ℕ → List Arc → Option ListFault
first_fault persons objects place [] = None
first_fault persons objects place (a ∷ arcs) = option_or (fault_at persons objects place a) (first_fault persons objects (suc place) arcs)

-- the fault of the numbers of persons and objects, if they have one
abbrev pub counts_fault : ℕ → ℕ → Option ListFault
counts_fault persons objects =
    if not (nat_le 1 persons && nat_le persons MOST_PERSONS) then Some Persons else
    (if not (nat_le persons objects && nat_le objects MOST_OBJECTS) then Some Objects else None)

-- the first fault of a would-be problem: that of the two numbers, or else that of the arcs
abbrev pub problem_fault : Problem → Option ListFault
problem_fault p = option_or (counts_fault p.persons p.objects) (first_fault p.persons p.objects 0 p.arcs)

-- the first fault of a list
abbrev pub list_fault : ℕ → ℕ → List Arc → Option ListFault
list_fault persons wanted arcs = problem_fault (problem_from persons wanted arcs)

-- the problem, or the fault if there is one
abbrev pub unless : Problem → Option ListFault → Result Problem ListFault
unless p None = Ok p
unless p (Some fault) = Err fault

-- the problem of a list, or its first fault
abbrev pub listed : ℕ → ℕ → List Arc → Result Problem ListFault
listed persons wanted arcs = unless (problem_from persons wanted arcs) (list_fault persons wanted arcs)
