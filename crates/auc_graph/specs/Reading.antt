-- How the numbers of a text are read, one after another: as a problem, or as the first fault.
use Rattle.std.specs.Prelude.{ℕ, ◌+◌, ◌*◌, ◌-◌, ◌==◌, Bool, ◌&&◌, nat_le, nat_lt, if◌then◌else◌, List, [], ◌∷◌, ◌++◌, length, Result, Ok, Err, ℤ, pos, neg_ℤ, unsigned_abs, int_le, fold}
use Rattle.auc_graph.specs.declared.number.Number.{Number}
use Rattle.auc_graph.specs.declared.number.Number.TheVariants.{Bad, Value, Huge}
use Rattle.auc_graph.specs.declared.arc.Arc.{Arc}
use Rattle.auc_graph.specs.declared.read_error.ReadError.{ReadError}
use Rattle.auc_graph.specs.declared.read_error.ReadError.TheVariants.{Empty, BadNumber, CountRange, TooManyArcs, PersonRange, ObjectRange, CostRange, Cut, TooFewObjects}
use Rattle.auc_graph.specs.declared.stage.Stage.{Stage}
use Rattle.auc_graph.specs.declared.stage.Stage.TheVariants.{AtCount, AtPerson, AtObject, AtCost}
use Rattle.auc_graph.specs.declared.limits.TheConstants.{MOST_COST}
use Rattle.auc_graph.specs.Numbers.{numbers}
use Rattle.auc_graph.specs.Problem.{Problem}

infixl 10 ◌>>=◌
abbrev pub ◌>>=◌ : {A B : Type 0} → Result A ReadError → (A → Result B ReadError) → Result B ReadError
(Ok x) >>= f = f x
(Err e) >>= f = Err e

abbrev pub is_between : ℤ → ℤ → ℤ → Bool
is_between least most z = int_le least z && int_le z most

-- the number of a token, if it is a number from least to most
abbrev pub within : ℤ → ℤ → ℕ → ReadError → Number → Result ℤ ReadError
within least most token range Bad = Err (BadNumber token)
within least most token range Huge = Err range
within least most token range (Value z) = if is_between least most z then Ok z else Err range

-- a number from 1 to most, as a number from 0
abbrev pub index : ℕ → ℕ → ReadError → Number → Result ℕ ReadError
index most token range x = do
  z ← within (pos 1) (pos most) token range x
  Ok (unsigned_abs z - 1)

abbrev pub cost : ℕ → ReadError → Number → Result ℤ ReadError
cost token range x = within (neg_ℤ MOST_COST) MOST_COST token range x

abbrev pub arc_of : ℕ → ℕ → ℤ → Arc
arc_of person object c = record { person = person; object = object; cost = c }

abbrev pub problem : ℕ → ℕ → List Arc → Problem
problem persons objects arcs = record { persons = persons; objects = objects; arcs = arcs }

-- no triple follows the allowed number of triples
abbrev pub room : ℕ → ℕ → Result ℕ ReadError
room limit before = if nat_le limit before then Err TooManyArcs else Ok before

-- The number of objects, from the number wanted. 0 means as many as persons, and fewer than persons is a fault.
abbrev pub objects_for : ℕ → ℕ → Result ℕ ReadError
objects_for wanted persons = if wanted == 0 then Ok persons else (if nat_lt wanted persons then Err TooFewObjects else Ok wanted)

-- The stage and the arcs after some numbers of a text, or the first fault in them. The first stage has the greatest
-- number of persons, and the number of objects wanted. A later one has the numbers of persons and objects, and of the
-- next arc the person and the object as far as they have been read.
abbrev pub State : Type 0
State = Result (Stage × List Arc) ReadError

abbrev pub start : ℕ → ℕ → State
start most wanted = Ok (AtCount most wanted, [])

-- The state after the next number, from a stage and the arcs so far. The first number of arc k is token 1 + 3 * k, all
-- counted from 0.
unfoldable pub step_at : ℕ → Stage → List Arc → Number → State
step_at limit (AtCount most wanted) arcs x = do
  before ← index most 0 CountRange x
  objects ← objects_for wanted (before + 1)
  Ok (AtPerson (before + 1) objects, arcs)
step_at limit (AtPerson persons objects) arcs x = do
  _ ← room limit (length arcs)
  person ← index persons (3 * length arcs + 1) (PersonRange (length arcs)) x
  Ok (AtObject persons objects person, arcs)
step_at limit (AtObject persons objects person) arcs x = do
  object ← index objects (3 * length arcs + 2) (ObjectRange (length arcs)) x
  Ok (AtCost persons objects person object, arcs)
step_at limit (AtCost persons objects person object) arcs x = do
  c ← cost (3 * length arcs + 3) (CostRange (length arcs)) x
  Ok (AtPerson persons objects, arcs ++ arc_of person object c ∷ [])

-- the state after the next number, where a fault stays the first one
unfoldable pub step : ℕ → State → Number → State
step limit (Ok (stage, arcs)) x = step_at limit stage arcs x
step limit (Err e) x = Err e

-- the result where the text ends at this stage
unfoldable pub finish_at : Stage → List Arc → Result Problem ReadError
finish_at (AtCount most wanted) arcs = Err Empty
finish_at (AtPerson persons objects) arcs = Ok (problem persons objects arcs)
finish_at (AtObject persons objects person) arcs = Err (Cut (3 * length arcs + 2))
finish_at (AtCost persons objects person object) arcs = Err (Cut (3 * length arcs + 3))

unfoldable pub finish : State → Result Problem ReadError
finish (Ok (stage, arcs)) = finish_at stage arcs
finish (Err e) = Err e

-- the result of reading these numbers after this state: a step for each, and then the end of the text
unfoldable pub reading_on : ℕ → State → List Number → Result Problem ReadError
reading_on limit state xs = finish (fold (step limit) state xs)

-- the result of reading a text, under a limit of persons and one of arcs, and with this number of objects wanted
abbrev pub reading : ℕ → ℕ → ℕ → List ℕ → Result Problem ReadError
reading most limit wanted text = reading_on limit (start most wanted) (numbers text)
