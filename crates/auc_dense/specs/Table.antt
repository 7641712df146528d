-- A table of costs: a row for each person, and in it an entry for each object. Which problem it stands for.
use Rattle.std.specs.Prelude.{◌≡◌, ◌≢◌, ℕ, zero, suc, ◌+◌, ◌*◌, ◌^◌, ◌<◌, ◌≤◌, get_or, List, [], ◌∷◌, ◌++◌, slice_range, ℤ, pos, if◌then◌else◌, Option}
use Rattle.std.specs.Option.{option_map}
use Rattle.std.specs.Ordering.{int_eq}
use Rattle.auc_graph.specs.declared.arc.Arc.{Arc}
use Rattle.auc_graph.specs.declared.list_faults.ListFault.{ListFault}
use Rattle.auc_graph.specs.declared.list_faults.ListFault.TheVariants.{Persons, Objects, TooManyArcs, Person, Object, Cost}
use Rattle.auc_graph.specs.Problem.{Problem}
use Rattle.auc_graph.specs.InMemory.{objects_or, problem_from, problem_fault}
use Rattle.auc_call.specs.Memory.{no_arc}

-- Each row has so many objects and lies within so many entries, and no two of them meet. An entry's number has 32 bits.
pub record IsTable (persons objects stride entries : ℕ) : Type 0 where
  pub numbered : persons * objects < 2 ^ 32
  pub apart : objects ≤ stride
  pub within : (person : ℕ) → person < persons → person * stride + objects ≤ entries

-- the entries of a person, the first of which stands at his place of the stride
abbrev pub row_of : ℕ → List ℤ → ℕ → ℕ → List ℤ
row_of objects costs stride person = slice_range costs (person * stride) (person * stride + objects)

-- the arc of an entry; that of a gap is none
abbrev pub entry_arcs : ℤ → ℕ → ℕ → ℤ → List Arc
entry_arcs gap person object cost = if int_eq cost gap then [] else record { cost = cost; person = person; object = object } ∷ []

-- the arcs of a row's entries, the first of which is that of this object
abbrev pub row_arcs : ℤ → ℕ → ℕ → List ℤ → List Arc
row_arcs gap person object [] = []
row_arcs gap person object (cost ∷ row) = entry_arcs gap person object cost ++ row_arcs gap person (suc object) row

-- the arcs of the first so many rows
abbrev pub table_arcs : ℕ → List ℤ → ℕ → ℤ → ℕ → List Arc
table_arcs objects costs stride gap zero = []
table_arcs objects costs stride gap (suc person) =
    table_arcs objects costs stride gap person ++ row_arcs gap person 0 (row_of objects costs stride person)

-- so many persons, so many objects, where 0 stands for as many as persons, and the arcs of the table
abbrev pub table_problem : ℕ → ℕ → List ℤ → ℕ → ℤ → Problem
table_problem persons wanted costs stride gap =
    problem_from persons wanted (table_arcs (objects_or wanted persons) costs stride gap persons)

-- where an arc's entry stands, as if no row had more than so many places
abbrev pub entry_of : ℕ → Arc → ℕ
entry_of objects arc = arc.person * objects + arc.object

-- a fault of this arc, told by the entry
abbrev pub at_entry : ℕ → Arc → ListFault → ListFault
at_entry objects arc Persons = Persons
at_entry objects arc Objects = Objects
at_entry objects arc TooManyArcs = TooManyArcs
at_entry objects arc (Person place) = Person (entry_of objects arc)
at_entry objects arc (Object place) = Object (entry_of objects arc)
at_entry objects arc (Cost place) = Cost (entry_of objects arc)

abbrev pub place_in : ListFault → ℕ
place_in Persons = 0
place_in Objects = 0
place_in TooManyArcs = 0
place_in (Person place) = place
place_in (Object place) = place
place_in (Cost place) = place

-- the first fault of a table's problem, told by the entry of the arc that is at fault
abbrev pub table_fault : Problem → Option ListFault
table_fault p = option_map (λ fault. at_entry p.objects (get_or p.arcs (place_in fault) no_arc) fault) (problem_fault p)

-- the arc of an entry that is no gap
pub record IsEntry (persons objects : ℕ) (costs : List ℤ) (stride : ℕ) (gap : ℤ) (arc : Arc) : Type 0 where
  pub person : arc.person < persons
  pub object : arc.object < objects
  pub cost : arc.cost ≡ get_or costs (arc.person * stride + arc.object) (pos 0)
  pub own : arc.cost ≢ gap
