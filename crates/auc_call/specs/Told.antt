-- What a call owes its caller: one fact for each status, and what stays as it was.
use Rattle.std.specs.Prelude.{◌≡◌, ◌≢◌, ◌↔◌, ℕ, ℤ, pos, List, Contains, Option, None}
use Rattle.auc_graph.specs.declared.list_faults.ListFault.{ListFault}
use Rattle.auc_graph.specs.Problem.{IsProblem, Problem}
use Rattle.auc_graph.specs.HallSet.{IsHallSet}
use Rattle.auc_graph.specs.InMemory.{problem_fault}
use Rattle.auc_call.specs.declared.found.Found.{Found}
use Rattle.auc_call.specs.declared.start.StartFault.{StartFault}
use Rattle.auc_call.specs.Answers.{IsBracketTold, IsClaimFaultTold, IsHallFaultTold, IsHallShown}
use Rattle.auc_call.specs.Checking.{AreClaimSizes}
use Rattle.auc_call.specs.Codes.{IsListFault, IsStartFault}
use Rattle.auc_call.specs.Memory.{Memory, AreSizes}
use Rattle.auc_call.specs.Shown.{IsLeastAt, IsHallAt}
use Rattle.auc_call.specs.Telling.{solve_statuses, check_statuses, KeepsFound, KeepsMemory, KeepsChecked}

-- A solve. `Fits` is what the caller's memory has to be, `list` and `unfit` are the faults of the problem and of the
-- start, and `At` says something of the places of the chosen arcs.
pub record IsTold (p : Problem) (Fits : Type 0) (list : Option ListFault) (unfit : Option StartFault) (At : (List ℕ → Type 0) → Type 0)
    (status : ℤ) (before after : Memory) (old new : Found) : Type 0 where
  pub known : Contains solve_statuses status
  pub optimal : status ≡ pos 0 → At (λ places. IsLeastAt p places after.prices new.cost)
  pub sizes : status ≡ pos 2 ↔ (Fits → ⊥)
  pub infeasible : status ≡ pos 3 → IsHallAt p after.choice after.set new.persons new.objects
  pub bracket : status ≡ pos 4 → At (λ places. IsBracketTold p places after.prices new.kind new.lower new.cost)
  pub refused : status ≡ pos 5 → IsListFault list new.kind new.place
  pub start : status ≡ pos 7 → IsProblem p × IsStartFault unfit new.kind new.place
  pub started : status ≢ pos 2 → status ≢ pos 5 → status ≢ pos 6 → status ≢ pos 7 → unfit ≡ None
  pub same : KeepsMemory status new.persons new.objects before after
  pub same_found : KeepsFound status old new

-- of places as they are
abbrev pub AtThese : List ℕ → (List ℕ → Type 0) → Type 0
AtThese places Holds = Holds places

-- a solve of a list of arcs
abbrev pub IsListTold : Problem → Option StartFault → ℤ → Memory → Memory → Found → Found → Type 0
IsListTold p unfit status before after old new =
    IsTold p (AreSizes p before) (problem_fault p) unfit (AtThese after.choice) status before after old new

-- A check: `Fits` is as for a solve, `Shown` what passes, `Holds` what is then true, and `Faulty` tells a fault by its
-- kind and place.
pub record IsCheckTold (p : Problem) (Fits Shown Holds : Type 0) (Faulty : ℕ → ℕ → Type 0) (status : ℤ) (old new : Found) : Type 0 where
  pub known : Contains check_statuses status
  pub valid : status ≡ pos 0 → Holds
  pub passes : Shown → status ≢ pos 6 → status ≡ pos 0
  pub sizes : status ≡ pos 2 ↔ (Fits → ⊥)
  pub invalid : status ≡ pos 3 → Faulty new.kind new.place
  pub refused : status ≡ pos 5 → IsListFault (problem_fault p) new.kind new.place
  pub same : KeepsChecked status old new

-- a check of an assignment
abbrev pub IsClaimChecked : Problem → List ℕ → List ℤ → ℤ → ℤ → Found → Found → Type 0
IsClaimChecked p choice prices cost status old new =
    IsCheckTold p (AreClaimSizes p choice prices) (IsLeastAt p choice prices cost) (IsLeastAt p choice prices cost)
    (IsClaimFaultTold p choice prices cost) status old new

-- a check of a Hall set, which any sizes fit
abbrev pub IsHallChecked : Problem → List ℕ → List ℕ → ℤ → Found → Found → Type 0
IsHallChecked p persons objects status old new =
    IsCheckTold p (Unit {0}) (IsHallShown p persons objects) (IsHallSet p persons objects)
    (IsHallFaultTold p persons objects) status old new
