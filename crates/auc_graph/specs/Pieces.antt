-- Reading a text in pieces: what is known after a piece, and what is kept of it.
use Rattle.std.specs.Prelude.{◌≡◌, ℕ, ◌≤◌, ◌<◌, ◌+◌, ◌^◌, List, [], ◌∷◌, ◌++◌, length, Result, Ok, Err, ⊤, if◌then◌else◌, Option}
use Rattle.std.specs.Fmt.{decimal}
use Rattle.std.specs.List.{position_or_len}
use Rattle.std.specs.Io.KnownBytes.{IsAtEnd}
use Rattle.auc_graph.specs.declared.arc.Arc.{Arc}
use Rattle.auc_graph.specs.declared.read_error.ReadError.{ReadError}
use Rattle.auc_graph.specs.declared.read_error.ReadError.TheVariants.{NoMemory, ReadFault, TooManyReads}
use Rattle.auc_graph.specs.declared.reading.ReadLimits.{ReadLimits}
use Rattle.auc_graph.specs.declared.stage.Stage.{Stage}
use Rattle.auc_graph.specs.declared.stage.Stage.TheVariants.{AtCount, AtPerson, AtObject, AtCost}
use Rattle.auc_graph.specs.declared.limits.TheConstants.{MOST_ARCS, MOST_OBJECTS, MOST_PERSONS}
use Rattle.auc_graph.specs.declared.unfinished.Unfinished.{Unfinished}
use Rattle.auc_graph.specs.declared.unfinished.Unfinished.TheVariants.{NoNumber, Digits}
use Rattle.auc_graph.specs.Tokens.{is_separator}
use Rattle.auc_graph.specs.Numbers.{number, numbers}
use Rattle.auc_graph.specs.Problem.{Problem, IsProblem}
use Rattle.auc_graph.specs.Reading.{problem, State, reading_on, reading}

-- the limits that a reader may be given: those of a problem, or lower ones
pub record AreReadLimits (limits : ReadLimits) : Type 0 where
  pub persons : limits.persons ≤ MOST_PERSONS
  pub arcs : limits.arcs ≤ MOST_ARCS
  pub objects : limits.objects ≤ MOST_OBJECTS

-- the result of reading the rest of a text, after this stage and these arcs
abbrev pub reading_at : ℕ → Stage → List Arc → List ℕ → Result Problem ReadError
reading_at limit stage arcs text = reading_on limit (Ok (stage, arcs)) (numbers text)

-- the state of the reader: a stage with its arcs, or the first fault
abbrev pub state_of : Result Stage ReadError → List Arc → State
state_of (Ok stage) arcs = Ok (stage, arcs)
state_of (Err e) arcs = Err e

abbrev pub reading_from : ℕ → Result Stage ReadError → List Arc → List ℕ → Result Problem ReadError
reading_from limit known arcs text = reading_on limit (state_of known arcs) (numbers text)

-- the arcs read so far make a problem, and are no more than the limit
abbrev pub AreArcs : ℕ → ℕ → ℕ → List Arc → Type 0
AreArcs limit persons objects arcs = IsProblem (problem persons objects arcs) × (length arcs ≤ limit)

-- The invariant of a stage. After the count, the arcs so far make a problem. While an arc is read, its parts are in
-- range, and the limit leaves room for it.
abbrev pub IsStage : ℕ → Stage → List Arc → Type 0
IsStage limit (AtCount most wanted) arcs = (arcs ≡ []) × (most ≤ MOST_PERSONS) × (wanted ≤ MOST_OBJECTS)
IsStage limit (AtPerson persons objects) arcs = AreArcs limit persons objects arcs
IsStage limit (AtObject persons objects person) arcs = AreArcs limit persons objects arcs × (length arcs < limit) × (person < persons)
IsStage limit (AtCost persons objects person object) arcs =
    AreArcs limit persons objects arcs × (length arcs < limit) × (person < persons) × (object < objects)

-- the same of a stage or a fault; of a fault nothing is required
abbrev pub IsKnown : ℕ → Result Stage ReadError → List Arc → Type 0
IsKnown limit (Ok stage) arcs = IsStage limit stage arcs
IsKnown limit (Err e) arcs = ⊤

-- the token has no separator in it
abbrev pub IsPlain : List ℕ → Type 0
IsPlain token = position_or_len is_separator token ≡ length token

-- two beginnings of a token are alike: whatever bytes follow, both read as the same number
abbrev pub AreAlike : List ℕ → List ℕ → Type 0
AreAlike a b = (more : List ℕ) → number (a ++ more) ≡ number (b ++ more)

-- a short text in place of an unfinished token that is too long to be kept
abbrev pub spelled : Unfinished → List ℕ
spelled NoNumber = 120 ∷ []
spelled (Digits negative value point) = (if negative then 45 else 43) ∷ (decimal value ++ (if point then 46 ∷ [] else []))

abbrev pub IsCapped : Unfinished → Type 0
IsCapped NoNumber = ⊤
IsCapped (Digits negative value point) = value ≤ 10 ^ 18 + 1

-- The answer of a reader that has taken this text, with these bytes left. At the end, it is the result of reading the
-- whole text. After too many reads, each read has taken a byte. Nothing is said of a failed read or of want of memory.
abbrev pub IsRead : ReadLimits → Option (List ℕ) → List ℕ → Result Problem ReadError → Type 0
IsRead limits left text (Err NoMemory) = ⊤
IsRead limits left text (Err ReadFault) = ⊤
IsRead limits left text (Err TooManyReads) = limits.reads ≤ length text
IsRead limits left text answer = IsAtEnd left × (reading limits.persons limits.arcs limits.objects text ≡ answer)
