-- What a call tells: a status, and a few fields.
use Rattle.std.specs.Prelude.{◌≡◌, ◌≢◌, ℕ, ℤ, pos, List, [], ◌∷◌, Result, Ok, Err}
use Rattle.auc_call.specs.declared.found.Found.{Found}
use Rattle.auc_call.specs.declared.solved.Solved.{Solved}
use Rattle.auc_call.specs.declared.solved.Solved.TheVariants.{Optimal, Infeasible, Bracket}
use Rattle.auc_call.specs.declared.solved.Failed.{Failed}
use Rattle.auc_call.specs.declared.solved.Failed.TheVariants.{Sizes, Fault, Start, NoMemory}
use Rattle.auc_call.specs.declared.checked.Checked.{Checked}
use Rattle.auc_call.specs.declared.checked.Checked.TheVariants.{Valid, Invalid}
use Rattle.auc_call.specs.Codes.{list_kind, list_place, start_kind, start_place, limit_kind, claim_kind, claim_place}
use Rattle.auc_call.specs.Memory.{Memory, StaysAfter}

-- every status of a solve
abbrev pub solve_statuses : List ℤ
solve_statuses = pos 0 ∷ pos 2 ∷ pos 3 ∷ pos 4 ∷ pos 5 ∷ pos 6 ∷ pos 7 ∷ []

-- every status of a check
abbrev pub check_statuses : List ℤ
check_statuses = pos 0 ∷ pos 2 ∷ pos 3 ∷ pos 5 ∷ pos 6 ∷ []

abbrev pub failed_status : Failed → ℤ
failed_status Sizes = pos 2
failed_status (Fault fault) = pos 5
failed_status (Start fault) = pos 7
failed_status NoMemory = pos 6

abbrev pub solve_status : Result Solved Failed → ℤ
solve_status (Ok (Optimal cost)) = pos 0
solve_status (Ok (Infeasible persons objects)) = pos 3
solve_status (Ok (Bracket reason lower cost)) = pos 4
solve_status (Err failed) = failed_status failed

abbrev pub check_status : Result Checked Failed → ℤ
check_status (Ok Valid) = pos 0
check_status (Ok (Invalid fault)) = pos 3
check_status (Err failed) = failed_status failed

abbrev pub failed_found : Failed → Found → Found
failed_found Sizes old = old
failed_found (Fault fault) old = record
    { cost = old.cost; lower = old.lower; persons = old.persons; objects = old.objects; kind = list_kind fault; place = list_place fault }
failed_found (Start fault) old = record
    { cost = old.cost; lower = old.lower; persons = old.persons; objects = old.objects; kind = start_kind fault; place = start_place fault }
failed_found NoMemory old = old

abbrev pub solve_found : Result Solved Failed → Found → Found
solve_found (Ok (Optimal cost)) old = record
    { cost = cost; lower = old.lower; persons = old.persons; objects = old.objects; kind = old.kind; place = old.place }
solve_found (Ok (Infeasible persons objects)) old = record
    { cost = old.cost; lower = old.lower; persons = persons; objects = objects; kind = old.kind; place = old.place }
solve_found (Ok (Bracket reason lower cost)) old = record
    { cost = cost; lower = lower; persons = old.persons; objects = old.objects; kind = limit_kind reason; place = old.place }
solve_found (Err failed) old = failed_found failed old

abbrev pub check_found : Result Checked Failed → Found → Found
check_found (Ok Valid) old = old
check_found (Ok (Invalid fault)) old = record
    { cost = old.cost; lower = old.lower; persons = old.persons; objects = old.objects; kind = claim_kind fault; place = claim_place fault }
check_found (Err failed) old = failed_found failed old

-- each field is as it was, unless the status names it
pub record KeepsFound (status : ℤ) (old new : Found) : Type 0 where
  pub cost : status ≢ pos 0 → status ≢ pos 4 → new.cost ≡ old.cost
  pub lower : status ≢ pos 4 → new.lower ≡ old.lower
  pub persons : status ≢ pos 3 → new.persons ≡ old.persons
  pub objects : status ≢ pos 3 → new.objects ≡ old.objects
  pub kind : status ≢ pos 4 → status ≢ pos 5 → status ≢ pos 7 → new.kind ≡ old.kind
  pub place : status ≢ pos 5 → status ≢ pos 7 → new.place ≡ old.place

-- and so is what a solve writes; after a Hall set of so many persons and objects only these are new
pub record KeepsMemory (status : ℤ) (persons objects : ℕ) (old new : Memory) : Type 0 where
  pub choice : status ≢ pos 0 → status ≢ pos 3 → status ≢ pos 4 → new.choice ≡ old.choice
  pub prices : status ≢ pos 0 → status ≢ pos 4 → new.prices ≡ old.prices
  pub set : status ≢ pos 3 → new.set ≡ old.set
  pub after_persons : status ≡ pos 3 → StaysAfter persons old.choice new.choice
  pub after_objects : status ≡ pos 3 → StaysAfter objects old.set new.set

-- a check writes the kind and the place of a fault alone
pub record KeepsChecked (status : ℤ) (old new : Found) : Type 0 where
  pub cost : new.cost ≡ old.cost
  pub lower : new.lower ≡ old.lower
  pub persons : new.persons ≡ old.persons
  pub objects : new.objects ≡ old.objects
  pub kind : status ≢ pos 3 → status ≢ pos 5 → new.kind ≡ old.kind
  pub place : status ≢ pos 3 → status ≢ pos 5 → new.place ≡ old.place
