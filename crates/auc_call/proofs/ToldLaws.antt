-- What a status says of a solve.
use Rattle.std.proofs.Common.{◌≡◌, ◌≢◌, ℕ, List, Option, Some, None, refl, sym, ap, subst, arith, drop}
use Rattle.std.specs.Prelude.{ℤ, pos, unsigned_abs, Result, Ok, Err, Contains}
use Rattle.auc_graph.specs.declared.list_faults.ListFault.{ListFault}
use Rattle.auc_graph.specs.Problem.{IsProblem, Problem}
use Rattle.auc_graph.specs.InMemory.{problem_fault}
use Rattle.auc_call.specs.declared.driver.Driver.{Driver}
use Rattle.auc_call.specs.declared.found.Found.{Found}
use Rattle.auc_call.specs.declared.start.StartFault.{StartFault}
use Rattle.auc_call.specs.declared.solved.Solved.{Solved}
use Rattle.auc_call.specs.declared.solved.Solved.TheVariants.{Optimal, Infeasible, Bracket}
use Rattle.auc_call.specs.declared.solved.Failed.{Failed}
use Rattle.auc_call.specs.declared.solved.Failed.TheVariants.{Sizes, Fault, Start, NoMemory}
use Rattle.auc_call.specs.Memory.{Memory, AreSizes}
use Rattle.auc_call.specs.Shown.{IsLeastAt, IsHallAt}
use Rattle.auc_call.specs.Start.{start_fault_by}
use Rattle.auc_call.specs.Codes.{list_kind, list_place, start_kind, start_place, IsListFault, IsStartFault}
use Rattle.auc_call.specs.Solving.{Solves}
use Rattle.auc_call.specs.Answers.{IsBracketTold}
use Rattle.auc_call.specs.Told.{IsListTold}
use Rattle.auc_call.specs.Telling.{failed_found, solve_status, solve_found, solve_statuses, KeepsFound, KeepsMemory}

pub apart : (m n : ℕ) → pos m ≡ pos n → m ≡ n
apart m n e = ap unsigned_abs e

pub solve_known : (r : Result Solved Failed) → Contains solve_statuses (solve_status r)
solve_known (Ok (Optimal cost)) = (0, omega arith, refl)
solve_known (Ok (Infeasible persons objects)) = (2, omega arith, refl)
solve_known (Ok (Bracket reason lower cost)) = (3, omega arith, refl)
solve_known (Err Sizes) = (1, omega arith, refl)
solve_known (Err (Fault fault)) = (4, omega arith, refl)
solve_known (Err (Start fault)) = (6, omega arith, refl)
solve_known (Err NoMemory) = (5, omega arith, refl)

pub told_optimal : (d : Driver) (p : Problem) (start : List ℤ) (before after : Memory) (r : Result Solved Failed) (old : Found) → Solves d p start before after r → solve_status r ≡ pos 0 → IsLeastAt p after.choice after.prices (solve_found r old).cost
told_optimal d p start before after (Ok (Optimal cost)) old h e = h.2.0
told_optimal d p start before after (Ok (Infeasible persons objects)) old h e = absurd (omega (arith, apart 3 0 e))
told_optimal d p start before after (Ok (Bracket reason lower cost)) old h e = absurd (omega (arith, apart 4 0 e))
told_optimal d p start before after (Err Sizes) old h e = absurd (omega (arith, apart 2 0 e))
told_optimal d p start before after (Err (Fault fault)) old h e = absurd (omega (arith, apart 5 0 e))
told_optimal d p start before after (Err (Start fault)) old h e = absurd (omega (arith, apart 7 0 e))
told_optimal d p start before after (Err NoMemory) old h e = absurd (omega (arith, apart 6 0 e))

pub told_infeasible : (d : Driver) (p : Problem) (start : List ℤ) (before after : Memory) (r : Result Solved Failed) (old : Found) → Solves d p start before after r → solve_status r ≡ pos 3 → IsHallAt p after.choice after.set (solve_found r old).persons (solve_found r old).objects
told_infeasible d p start before after (Ok (Optimal cost)) old h e = absurd (omega (arith, apart 0 3 e))
told_infeasible d p start before after (Ok (Infeasible persons objects)) old h e = h.2.0
told_infeasible d p start before after (Ok (Bracket reason lower cost)) old h e = absurd (omega (arith, apart 4 3 e))
told_infeasible d p start before after (Err Sizes) old h e = absurd (omega (arith, apart 2 3 e))
told_infeasible d p start before after (Err (Fault fault)) old h e = absurd (omega (arith, apart 5 3 e))
told_infeasible d p start before after (Err (Start fault)) old h e = absurd (omega (arith, apart 7 3 e))
told_infeasible d p start before after (Err NoMemory) old h e = absurd (omega (arith, apart 6 3 e))

pub told_bracket : (d : Driver) (p : Problem) (start : List ℤ) (before after : Memory) (r : Result Solved Failed) (old : Found) → Solves d p start before after r → solve_status r ≡ pos 4 → IsBracketTold p after.choice after.prices (solve_found r old).kind (solve_found r old).lower (solve_found r old).cost
told_bracket d p start before after (Ok (Optimal cost)) old h e = absurd (omega (arith, apart 0 4 e))
told_bracket d p start before after (Ok (Infeasible persons objects)) old h e = absurd (omega (arith, apart 3 4 e))
told_bracket d p start before after (Ok (Bracket reason lower cost)) old h e = record { reason = reason; kind_is = refl; right = h.2.0 }
told_bracket d p start before after (Err Sizes) old h e = absurd (omega (arith, apart 2 4 e))
told_bracket d p start before after (Err (Fault fault)) old h e = absurd (omega (arith, apart 5 4 e))
told_bracket d p start before after (Err (Start fault)) old h e = absurd (omega (arith, apart 7 4 e))
told_bracket d p start before after (Err NoMemory) old h e = absurd (omega (arith, apart 6 4 e))

pub list_fault_is : (found : Option ListFault) (fault : ListFault) → found ≡ Some fault → IsListFault found (list_kind fault) (list_place fault)
list_fault_is found fault e = subst (λ (o : Option ListFault). IsListFault o (list_kind fault) (list_place fault)) (sym e) (refl, refl)

pub start_fault_is : (found : Option StartFault) (fault : StartFault) → found ≡ Some fault → IsStartFault found (start_kind fault) (start_place fault)
start_fault_is found fault e = subst (λ (o : Option StartFault). IsStartFault o (start_kind fault) (start_place fault)) (sym e) (refl, refl)

pub told_refused : (d : Driver) (p : Problem) (start : List ℤ) (before after : Memory) (r : Result Solved Failed) (old : Found) → Solves d p start before after r → solve_status r ≡ pos 5 → IsListFault (problem_fault p) (solve_found r old).kind (solve_found r old).place
told_refused d p start before after (Ok (Optimal cost)) old h e = absurd (omega (arith, apart 0 5 e))
told_refused d p start before after (Ok (Infeasible persons objects)) old h e = absurd (omega (arith, apart 3 5 e))
told_refused d p start before after (Ok (Bracket reason lower cost)) old h e = absurd (omega (arith, apart 4 5 e))
told_refused d p start before after (Err Sizes) old h e = absurd (omega (arith, apart 2 5 e))
told_refused d p start before after (Err (Fault fault)) old h e = list_fault_is (problem_fault p) fault h.0.1
told_refused d p start before after (Err (Start fault)) old h e = absurd (omega (arith, apart 7 5 e))
told_refused d p start before after (Err NoMemory) old h e = absurd (omega (arith, apart 6 5 e))

pub told_start : (d : Driver) (p : Problem) (start : List ℤ) (before after : Memory) (r : Result Solved Failed) (old : Found) → Solves d p start before after r → solve_status r ≡ pos 7 → IsProblem p × IsStartFault (start_fault_by d p start) (solve_found r old).kind (solve_found r old).place
told_start d p start before after (Ok (Optimal cost)) old h e = absurd (omega (arith, apart 0 7 e))
told_start d p start before after (Ok (Infeasible persons objects)) old h e = absurd (omega (arith, apart 3 7 e))
told_start d p start before after (Ok (Bracket reason lower cost)) old h e = absurd (omega (arith, apart 4 7 e))
told_start d p start before after (Err Sizes) old h e = absurd (omega (arith, apart 2 7 e))
told_start d p start before after (Err (Fault fault)) old h e = absurd (omega (arith, apart 5 7 e))
told_start d p start before after (Err (Start fault)) old h e = (h.0.1, start_fault_is (start_fault_by d p start) fault h.0.2)
told_start d p start before after (Err NoMemory) old h e = absurd (omega (arith, apart 6 7 e))

pub told_sizes : (d : Driver) (p : Problem) (start : List ℤ) (before after : Memory) (r : Result Solved Failed) → Solves d p start before after r → solve_status r ≡ pos 2 → AreSizes p before → ⊥
told_sizes d p start before after (Ok (Optimal cost)) h e = absurd (omega (arith, apart 0 2 e))
told_sizes d p start before after (Ok (Infeasible persons objects)) h e = absurd (omega (arith, apart 3 2 e))
told_sizes d p start before after (Ok (Bracket reason lower cost)) h e = absurd (omega (arith, apart 4 2 e))
told_sizes d p start before after (Err Sizes) h e = h.0
told_sizes d p start before after (Err (Fault fault)) h e = absurd (omega (arith, apart 5 2 e))
told_sizes d p start before after (Err (Start fault)) h e = absurd (omega (arith, apart 7 2 e))
told_sizes d p start before after (Err NoMemory) h e = absurd (omega (arith, apart 6 2 e))

pub sizes_told : (d : Driver) (p : Problem) (start : List ℤ) (before after : Memory) (r : Result Solved Failed) → Solves d p start before after r → (AreSizes p before → ⊥) → solve_status r ≡ pos 2
sizes_told d p start before after (Ok solved) h not_so = absurd (not_so h.0)
sizes_told d p start before after (Err Sizes) h not_so = refl
sizes_told d p start before after (Err (Fault fault)) h not_so = absurd (not_so h.0.0)
sizes_told d p start before after (Err (Start fault)) h not_so = absurd (not_so h.0.0)
sizes_told d p start before after (Err NoMemory) h not_so = absurd (not_so h.0)

pub told_started : (d : Driver) (p : Problem) (start : List ℤ) (before after : Memory) (r : Result Solved Failed) → Solves d p start before after r → solve_status r ≢ pos 2 → solve_status r ≢ pos 5 → solve_status r ≢ pos 6 → solve_status r ≢ pos 7 → start_fault_by d p start ≡ None
told_started d p start before after (Ok solved) h two five six seven = h.1
told_started d p start before after (Err Sizes) h two five six seven = absurd (two refl)
told_started d p start before after (Err (Fault fault)) h two five six seven = absurd (five refl)
told_started d p start before after (Err (Start fault)) h two five six seven = absurd (seven refl)
told_started d p start before after (Err NoMemory) h two five six seven = absurd (six refl)

pub told_same : (d : Driver) (p : Problem) (start : List ℤ) (before after : Memory) (r : Result Solved Failed) (old : Found) → Solves d p start before after r → KeepsMemory (solve_status r) (solve_found r old).persons (solve_found r old).objects before after
told_same d p start before after (Ok (Optimal cost)) old h = record { choice = λ a b c. absurd (a refl); prices = λ a b. absurd (a refl); set = λ a. h.2.1; after_persons = λ e. absurd (omega (arith, apart 0 3 e)); after_objects = λ e. absurd (omega (arith, apart 0 3 e)) }
told_same d p start before after (Ok (Infeasible persons objects)) old h = record { choice = λ a b c. absurd (b refl); prices = λ a b. h.2.1; set = λ a. absurd (a refl); after_persons = λ e. h.2.2; after_objects = λ e. h.2.3 }
told_same d p start before after (Ok (Bracket reason lower cost)) old h = record { choice = λ a b c. absurd (c refl); prices = λ a b. absurd (b refl); set = λ a. h.2.1; after_persons = λ e. absurd (omega (arith, apart 4 3 e)); after_objects = λ e. absurd (omega (arith, apart 4 3 e)) }
told_same d p start before after (Err failed) old h = record { choice = λ a b c. ap (λ (m : Memory). m.choice) h.1; prices = λ a b. ap (λ (m : Memory). m.prices) h.1; set = λ a. ap (λ (m : Memory). m.set) h.1; after_persons = λ e. ap (λ (m : Memory). drop (failed_found failed old).persons m.choice) h.1; after_objects = λ e. ap (λ (m : Memory). drop (failed_found failed old).objects m.set) h.1 }

pub told_found : (r : Result Solved Failed) (old : Found) → KeepsFound (solve_status r) old (solve_found r old)
told_found (Ok (Optimal cost)) old = record { cost = λ a b. absurd (a refl); lower = λ a. refl; persons = λ a. refl; objects = λ a. refl; kind = λ a b c. refl; place = λ a b. refl }
told_found (Ok (Infeasible persons objects)) old = record { cost = λ a b. refl; lower = λ a. refl; persons = λ a. absurd (a refl); objects = λ a. absurd (a refl); kind = λ a b c. refl; place = λ a b. refl }
told_found (Ok (Bracket reason lower cost)) old = record { cost = λ a b. absurd (b refl); lower = λ a. absurd (a refl); persons = λ a. refl; objects = λ a. refl; kind = λ a b c. absurd (a refl); place = λ a b. refl }
told_found (Err Sizes) old = record { cost = λ a b. refl; lower = λ a. refl; persons = λ a. refl; objects = λ a. refl; kind = λ a b c. refl; place = λ a b. refl }
told_found (Err (Fault fault)) old = record { cost = λ a b. refl; lower = λ a. refl; persons = λ a. refl; objects = λ a. refl; kind = λ a b c. absurd (b refl); place = λ a b. absurd (a refl) }
told_found (Err (Start fault)) old = record { cost = λ a b. refl; lower = λ a. refl; persons = λ a. refl; objects = λ a. refl; kind = λ a b c. absurd (c refl); place = λ a b. absurd (b refl) }
told_found (Err NoMemory) old = record { cost = λ a b. refl; lower = λ a. refl; persons = λ a. refl; objects = λ a. refl; kind = λ a b c. refl; place = λ a b. refl }

-- all of it
pub told : (d : Driver) (p : Problem) (start : List ℤ) (before after : Memory) (r : Result Solved Failed) (old : Found) → Solves d p start before after r → IsListTold p (start_fault_by d p start) (solve_status r) before after old (solve_found r old)
told d p start before after r old h = record {
  known = solve_known r;
  optimal = told_optimal d p start before after r old h;
  sizes = (told_sizes d p start before after r h, sizes_told d p start before after r h);
  infeasible = told_infeasible d p start before after r old h;
  bracket = told_bracket d p start before after r old h;
  refused = told_refused d p start before after r old h;
  start = told_start d p start before after r old h;
  started = told_started d p start before after r h;
  same = told_same d p start before after r old h;
  same_found = told_found r old;
}
