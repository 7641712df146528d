-- Faults and limits as numbers.
use Rattle.std.specs.Prelude.{◌≡◌, ℕ, Option, Some, None}
use Rattle.auc_graph.specs.declared.list_faults.ListFault.{ListFault}
use Rattle.auc_graph.specs.declared.list_faults.ListFault.TheVariants.{Persons, Objects, TooManyArcs, Person, Object, Cost}
use Rattle.auc_claim.specs.declared.reason.Reason.{Reason}
use Rattle.auc_claim.specs.declared.reason.Reason.TheVariants.{Bids, Ceiling, Posts, Trail, Mail}
use Rattle.auc_claim.specs.declared.refused.CertRefused.{CertRefused}
use Rattle.auc_claim.specs.declared.refused.CertRefused.TheVariants.{WrongSize, NoSuchArc, ObjectTwice, WrongCost, Slack, LeftOver, NotHall, WrongBound, NoMemory}
use Rattle.auc_call.specs.declared.start.StartFault.{StartFault}
use Rattle.auc_call.specs.declared.start.StartFault.TheVariants.{NotSquare, OtherSize, Price}
use Rattle.auc_call.specs.declared.checked.ClaimFault.{ClaimFault}
use Rattle.auc_call.specs.declared.checked.ClaimFault.TheVariants.{Misplaced, OutOfRange, Refused}

abbrev pub list_kind : ListFault → ℕ
list_kind Persons = 1
list_kind Objects = 2
list_kind TooManyArcs = 3
list_kind (Person arc) = 4
list_kind (Object arc) = 5
list_kind (Cost arc) = 6

abbrev pub list_place : ListFault → ℕ
list_place Persons = 0
list_place Objects = 0
list_place TooManyArcs = 0
list_place (Person arc) = arc
list_place (Object arc) = arc
list_place (Cost arc) = arc

abbrev pub start_kind : StartFault → ℕ
start_kind NotSquare = 1
start_kind OtherSize = 2
start_kind (Price object) = 3

abbrev pub start_place : StartFault → ℕ
start_place NotSquare = 0
start_place OtherSize = 0
start_place (Price object) = object

abbrev pub limit_kind : Reason → ℕ
limit_kind Bids = 1
limit_kind Ceiling = 2
limit_kind Posts = 3
limit_kind Trail = 4
limit_kind Mail = 5

-- what is told after a watch has stopped a run: that of a limit on bids
abbrev pub stop_kind : ℕ
stop_kind = limit_kind Bids

-- the last three never come of a check over a caller's memory
abbrev pub refused_kind : CertRefused → ℕ
refused_kind (ObjectTwice object) = 3
refused_kind WrongCost = 4
refused_kind (Slack person) = 5
refused_kind (LeftOver object) = 6
refused_kind NotHall = 7
refused_kind WrongBound = 8
refused_kind WrongSize = 8
refused_kind (NoSuchArc person) = 8
refused_kind NoMemory = 8

abbrev pub refused_place : CertRefused → ℕ
refused_place (ObjectTwice object) = object
refused_place WrongCost = 0
refused_place (Slack person) = person
refused_place (LeftOver object) = object
refused_place NotHall = 0
refused_place WrongBound = 0
refused_place WrongSize = 0
refused_place (NoSuchArc person) = person
refused_place NoMemory = 0

abbrev pub claim_kind : ClaimFault → ℕ
claim_kind (Misplaced person) = 1
claim_kind OutOfRange = 2
claim_kind (Refused fault) = refused_kind fault

abbrev pub claim_place : ClaimFault → ℕ
claim_place (Misplaced person) = person
claim_place OutOfRange = 0
claim_place (Refused fault) = refused_place fault

-- there is a fault of the list, of this kind and at this place
abbrev pub IsListFault : Option ListFault → ℕ → ℕ → Type 0
IsListFault None kind place = ⊥
IsListFault (Some fault) kind place = (kind ≡ list_kind fault) × (place ≡ list_place fault)

-- there is a fault of the start, of this kind and at this place
abbrev pub IsStartFault : Option StartFault → ℕ → ℕ → Type 0
IsStartFault None kind place = ⊥
IsStartFault (Some fault) kind place = (kind ≡ start_kind fault) × (place ≡ start_place fault)
