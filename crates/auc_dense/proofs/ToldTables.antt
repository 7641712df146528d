-- What a status says of a solve of a table.
use Rattle.std.proofs.Common.{Bool, ◌≡◌, ◌≢◌, ℕ, List, None, inl, inr, refl, ap, arith, drop}
use Rattle.std.specs.Prelude.{ℤ, pos, Result, Ok, Err}
use Rattle.auc_graph.specs.Problem.{IsProblem, Problem}
use Rattle.auc_claim.specs.declared.reason.Reason.{Reason}
use Rattle.auc_call.specs.declared.found.Found.{Found}
use Rattle.auc_call.specs.declared.solved.Solved.{Solved}
use Rattle.auc_call.specs.declared.solved.Solved.TheVariants.{Optimal, Infeasible, Bracket}
use Rattle.auc_call.specs.declared.solved.Failed.{Failed}
use Rattle.auc_call.specs.declared.solved.Failed.TheVariants.{Sizes, Fault, Start, NoMemory}
use Rattle.auc_call.specs.Answers.{IsBracketTold}
use Rattle.auc_call.specs.Codes.{IsListFault, IsStartFault, limit_kind, stop_kind}
use Rattle.auc_call.specs.Limited.{IsLimitAt, IsLimitTold, UnlessStopped}
use Rattle.auc_call.specs.Memory.{Memory}
use Rattle.auc_dense.specs.Naming.{ByObjects, objects_at}
use Rattle.auc_call.specs.Shown.{IsBracketAt, IsLeastAt, IsHallAt}
use Rattle.auc_call.specs.Start.{start_fault}
use Rattle.auc_dense.specs.Table.{table_fault}
use Rattle.auc_dense.specs.TableSolving.{AreTableSizes, SolvesTable}
use Rattle.auc_dense.specs.Told.{IsTableTold}
use Rattle.auc_call.specs.Telling.{failed_found, solve_status, solve_found, KeepsMemory}
use Rattle.auc_call.proofs.ToldLaws.{apart, list_fault_is, start_fault_is, solve_known, told_found}

pub table_optimal : (p : Problem) (stride entries : ℕ) (start : List ℤ) (bids : ℕ) (stopped : Bool) (before after : Memory) (r : Result Solved Failed) (old : Found) → SolvesTable p stride entries start bids stopped before after r → solve_status r ≡ pos 0 → ByObjects p.arcs after.choice (λ places. IsLeastAt p places after.prices (solve_found r old).cost)
table_optimal p stride entries start bids stopped before after (Ok (Optimal cost)) old h e = h.2.0
table_optimal p stride entries start bids stopped before after (Ok (Infeasible persons objects)) old h e = absurd (omega (arith, apart 3 0 e))
table_optimal p stride entries start bids stopped before after (Ok (Bracket reason lower cost)) old h e = absurd (omega (arith, apart 4 0 e))
table_optimal p stride entries start bids stopped before after (Err Sizes) old h e = absurd (omega (arith, apart 2 0 e))
table_optimal p stride entries start bids stopped before after (Err (Fault fault)) old h e = absurd (omega (arith, apart 5 0 e))
table_optimal p stride entries start bids stopped before after (Err (Start fault)) old h e = absurd (omega (arith, apart 7 0 e))
table_optimal p stride entries start bids stopped before after (Err NoMemory) old h e = absurd (omega (arith, apart 6 0 e))

pub table_infeasible : (p : Problem) (stride entries : ℕ) (start : List ℤ) (bids : ℕ) (stopped : Bool) (before after : Memory) (r : Result Solved Failed) (old : Found) → SolvesTable p stride entries start bids stopped before after r → solve_status r ≡ pos 3 → IsHallAt p after.choice after.set (solve_found r old).persons (solve_found r old).objects
table_infeasible p stride entries start bids stopped before after (Ok (Optimal cost)) old h e = absurd (omega (arith, apart 0 3 e))
table_infeasible p stride entries start bids stopped before after (Ok (Infeasible persons objects)) old h e = h.2.0
table_infeasible p stride entries start bids stopped before after (Ok (Bracket reason lower cost)) old h e = absurd (omega (arith, apart 4 3 e))
table_infeasible p stride entries start bids stopped before after (Err Sizes) old h e = absurd (omega (arith, apart 2 3 e))
table_infeasible p stride entries start bids stopped before after (Err (Fault fault)) old h e = absurd (omega (arith, apart 5 3 e))
table_infeasible p stride entries start bids stopped before after (Err (Start fault)) old h e = absurd (omega (arith, apart 7 3 e))
table_infeasible p stride entries start bids stopped before after (Err NoMemory) old h e = absurd (omega (arith, apart 6 3 e))

pub table_bracket : (p : Problem) (stride entries : ℕ) (start : List ℤ) (bids : ℕ) (stopped : Bool) (before after : Memory) (r : Result Solved Failed) (old : Found) → SolvesTable p stride entries start bids stopped before after r → solve_status r ≡ pos 4 → ByObjects p.arcs after.choice (λ places. IsBracketTold p places after.prices (solve_found r old).kind (solve_found r old).lower (solve_found r old).cost)
table_bracket p stride entries start bids stopped before after (Ok (Optimal cost)) old h e = absurd (omega (arith, apart 0 4 e))
table_bracket p stride entries start bids stopped before after (Ok (Infeasible persons objects)) old h e = absurd (omega (arith, apart 3 4 e))
table_bracket p stride entries start bids stopped before after (Ok (Bracket reason lower cost)) old h e = record { places = h.2.0.places; objects_are = h.2.0.objects_are; holds = record { reason = reason; kind_is = refl; right = h.2.0.holds.0 } }
table_bracket p stride entries start bids stopped before after (Err Sizes) old h e = absurd (omega (arith, apart 2 4 e))
table_bracket p stride entries start bids stopped before after (Err (Fault fault)) old h e = absurd (omega (arith, apart 5 4 e))
table_bracket p stride entries start bids stopped before after (Err (Start fault)) old h e = absurd (omega (arith, apart 7 4 e))
table_bracket p stride entries start bids stopped before after (Err NoMemory) old h e = absurd (omega (arith, apart 6 4 e))

-- of a bracket's places
limit_at_places : (p : Problem) (start : List ℤ) (bids : ℕ) (stopped : Bool) (after : Memory) (reason : Reason) (lower cost : ℤ) (places : List ℕ) → after.choice ≡ objects_at p.arcs places → UnlessStopped stopped (reason ≡ Reason.Bids) (IsLimitAt p start bids places after.prices reason lower cost)
    → UnlessStopped stopped (limit_kind reason ≡ stop_kind) (ByObjects p.arcs after.choice (λ places. IsLimitTold p start bids places after.prices (limit_kind reason) lower cost))
limit_at_places p start bids stopped after reason lower cost places objects_are (inl told) = inl (told.0, ap limit_kind told.1)
limit_at_places p start bids stopped after reason lower cost places objects_are (inr limit) = inr (record { places = places; objects_are = objects_are; holds = record { reason = reason; kind_is = refl; limit = limit } })

limit_by_objects : (p : Problem) (start : List ℤ) (bids : ℕ) (stopped : Bool) (after : Memory) (reason : Reason) (lower cost : ℤ)
    → ByObjects p.arcs after.choice (λ places. IsBracketAt p places after.prices reason lower cost × UnlessStopped stopped (reason ≡ Reason.Bids) (IsLimitAt p start bids places after.prices reason lower cost))
    → UnlessStopped stopped (limit_kind reason ≡ stop_kind) (ByObjects p.arcs after.choice (λ places. IsLimitTold p start bids places after.prices (limit_kind reason) lower cost))
limit_by_objects p start bids stopped after reason lower cost h = limit_at_places p start bids stopped after reason lower cost h.places h.objects_are h.holds.1

pub table_limit : (p : Problem) (stride entries : ℕ) (start : List ℤ) (bids : ℕ) (stopped : Bool) (before after : Memory) (r : Result Solved Failed) (old : Found) → SolvesTable p stride entries start bids stopped before after r → solve_status r ≡ pos 4 → UnlessStopped stopped ((solve_found r old).kind ≡ stop_kind) (ByObjects p.arcs after.choice (λ places. IsLimitTold p start bids places after.prices (solve_found r old).kind (solve_found r old).lower (solve_found r old).cost))
table_limit p stride entries start bids stopped before after (Ok (Optimal cost)) old h e = absurd (omega (arith, apart 0 4 e))
table_limit p stride entries start bids stopped before after (Ok (Infeasible persons objects)) old h e = absurd (omega (arith, apart 3 4 e))
table_limit p stride entries start bids stopped before after (Ok (Bracket reason lower cost)) old h e = limit_by_objects p start bids stopped after reason lower cost h.2.0
table_limit p stride entries start bids stopped before after (Err Sizes) old h e = absurd (omega (arith, apart 2 4 e))
table_limit p stride entries start bids stopped before after (Err (Fault fault)) old h e = absurd (omega (arith, apart 5 4 e))
table_limit p stride entries start bids stopped before after (Err (Start fault)) old h e = absurd (omega (arith, apart 7 4 e))
table_limit p stride entries start bids stopped before after (Err NoMemory) old h e = absurd (omega (arith, apart 6 4 e))

pub table_refused : (p : Problem) (stride entries : ℕ) (start : List ℤ) (bids : ℕ) (stopped : Bool) (before after : Memory) (r : Result Solved Failed) (old : Found) → SolvesTable p stride entries start bids stopped before after r → solve_status r ≡ pos 5 → IsListFault (table_fault p) (solve_found r old).kind (solve_found r old).place
table_refused p stride entries start bids stopped before after (Ok (Optimal cost)) old h e = absurd (omega (arith, apart 0 5 e))
table_refused p stride entries start bids stopped before after (Ok (Infeasible persons objects)) old h e = absurd (omega (arith, apart 3 5 e))
table_refused p stride entries start bids stopped before after (Ok (Bracket reason lower cost)) old h e = absurd (omega (arith, apart 4 5 e))
table_refused p stride entries start bids stopped before after (Err Sizes) old h e = absurd (omega (arith, apart 2 5 e))
table_refused p stride entries start bids stopped before after (Err (Fault fault)) old h e = list_fault_is (table_fault p) fault h.0.1
table_refused p stride entries start bids stopped before after (Err (Start fault)) old h e = absurd (omega (arith, apart 7 5 e))
table_refused p stride entries start bids stopped before after (Err NoMemory) old h e = absurd (omega (arith, apart 6 5 e))

pub table_start : (p : Problem) (stride entries : ℕ) (start : List ℤ) (bids : ℕ) (stopped : Bool) (before after : Memory) (r : Result Solved Failed) (old : Found) → SolvesTable p stride entries start bids stopped before after r → solve_status r ≡ pos 7 → IsProblem p × IsStartFault (start_fault p start) (solve_found r old).kind (solve_found r old).place
table_start p stride entries start bids stopped before after (Ok (Optimal cost)) old h e = absurd (omega (arith, apart 0 7 e))
table_start p stride entries start bids stopped before after (Ok (Infeasible persons objects)) old h e = absurd (omega (arith, apart 3 7 e))
table_start p stride entries start bids stopped before after (Ok (Bracket reason lower cost)) old h e = absurd (omega (arith, apart 4 7 e))
table_start p stride entries start bids stopped before after (Err Sizes) old h e = absurd (omega (arith, apart 2 7 e))
table_start p stride entries start bids stopped before after (Err (Fault fault)) old h e = absurd (omega (arith, apart 5 7 e))
table_start p stride entries start bids stopped before after (Err (Start fault)) old h e = (h.0.1, start_fault_is (start_fault p start) fault h.0.2)
table_start p stride entries start bids stopped before after (Err NoMemory) old h e = absurd (omega (arith, apart 6 7 e))

pub table_sizes : (p : Problem) (stride entries : ℕ) (start : List ℤ) (bids : ℕ) (stopped : Bool) (before after : Memory) (r : Result Solved Failed) → SolvesTable p stride entries start bids stopped before after r → solve_status r ≡ pos 2 → AreTableSizes p stride entries before → ⊥
table_sizes p stride entries start bids stopped before after (Ok (Optimal cost)) h e = absurd (omega (arith, apart 0 2 e))
table_sizes p stride entries start bids stopped before after (Ok (Infeasible persons objects)) h e = absurd (omega (arith, apart 3 2 e))
table_sizes p stride entries start bids stopped before after (Ok (Bracket reason lower cost)) h e = absurd (omega (arith, apart 4 2 e))
table_sizes p stride entries start bids stopped before after (Err Sizes) h e = h.0
table_sizes p stride entries start bids stopped before after (Err (Fault fault)) h e = absurd (omega (arith, apart 5 2 e))
table_sizes p stride entries start bids stopped before after (Err (Start fault)) h e = absurd (omega (arith, apart 7 2 e))
table_sizes p stride entries start bids stopped before after (Err NoMemory) h e = absurd (omega (arith, apart 6 2 e))

pub sizes_table : (p : Problem) (stride entries : ℕ) (start : List ℤ) (bids : ℕ) (stopped : Bool) (before after : Memory) (r : Result Solved Failed) → SolvesTable p stride entries start bids stopped before after r → (AreTableSizes p stride entries before → ⊥) → solve_status r ≡ pos 2
sizes_table p stride entries start bids stopped before after (Ok solved) h not_so = absurd (not_so h.0)
sizes_table p stride entries start bids stopped before after (Err Sizes) h not_so = refl
sizes_table p stride entries start bids stopped before after (Err (Fault fault)) h not_so = absurd (not_so h.0.0)
sizes_table p stride entries start bids stopped before after (Err (Start fault)) h not_so = absurd (not_so h.0.0)
sizes_table p stride entries start bids stopped before after (Err NoMemory) h not_so = absurd (not_so h.0)

pub table_started : (p : Problem) (stride entries : ℕ) (start : List ℤ) (bids : ℕ) (stopped : Bool) (before after : Memory) (r : Result Solved Failed) → SolvesTable p stride entries start bids stopped before after r → solve_status r ≢ pos 2 → solve_status r ≢ pos 5 → solve_status r ≢ pos 6 → solve_status r ≢ pos 7 → start_fault p start ≡ None
table_started p stride entries start bids stopped before after (Ok solved) h two five six seven = h.1
table_started p stride entries start bids stopped before after (Err Sizes) h two five six seven = absurd (two refl)
table_started p stride entries start bids stopped before after (Err (Fault fault)) h two five six seven = absurd (five refl)
table_started p stride entries start bids stopped before after (Err (Start fault)) h two five six seven = absurd (seven refl)
table_started p stride entries start bids stopped before after (Err NoMemory) h two five six seven = absurd (six refl)

pub table_same : (p : Problem) (stride entries : ℕ) (start : List ℤ) (bids : ℕ) (stopped : Bool) (before after : Memory) (r : Result Solved Failed) (old : Found) → SolvesTable p stride entries start bids stopped before after r → KeepsMemory (solve_status r) (solve_found r old).persons (solve_found r old).objects before after
table_same p stride entries start bids stopped before after (Ok (Optimal cost)) old h = record { choice = λ a b c. absurd (a refl); prices = λ a b. absurd (a refl); set = λ a. h.2.1; after_persons = λ e. absurd (omega (arith, apart 0 3 e)); after_objects = λ e. absurd (omega (arith, apart 0 3 e)) }
table_same p stride entries start bids stopped before after (Ok (Infeasible persons objects)) old h = record { choice = λ a b c. absurd (b refl); prices = λ a b. h.2.1; set = λ a. absurd (a refl); after_persons = λ e. h.2.2; after_objects = λ e. h.2.3 }
table_same p stride entries start bids stopped before after (Ok (Bracket reason lower cost)) old h = record { choice = λ a b c. absurd (c refl); prices = λ a b. absurd (b refl); set = λ a. h.2.1; after_persons = λ e. absurd (omega (arith, apart 4 3 e)); after_objects = λ e. absurd (omega (arith, apart 4 3 e)) }
table_same p stride entries start bids stopped before after (Err failed) old h = record { choice = λ a b c. ap (λ (m : Memory). m.choice) h.1; prices = λ a b. ap (λ (m : Memory). m.prices) h.1; set = λ a. ap (λ (m : Memory). m.set) h.1; after_persons = λ e. ap (λ (m : Memory). drop (failed_found failed old).persons m.choice) h.1; after_objects = λ e. ap (λ (m : Memory). drop (failed_found failed old).objects m.set) h.1 }

-- all of it
pub table_told : (p : Problem) (stride entries : ℕ) (start : List ℤ) (bids : ℕ) (stopped : Bool) (before after : Memory) (r : Result Solved Failed) (old : Found) → SolvesTable p stride entries start bids stopped before after r → IsTableTold p stride entries (start_fault p start) (solve_status r) before after old (solve_found r old)
table_told p stride entries start bids stopped before after r old h = record {
  known = solve_known r;
  optimal = table_optimal p stride entries start bids stopped before after r old h;
  sizes = (table_sizes p stride entries start bids stopped before after r h, sizes_table p stride entries start bids stopped before after r h);
  infeasible = table_infeasible p stride entries start bids stopped before after r old h;
  bracket = table_bracket p stride entries start bids stopped before after r old h;
  refused = table_refused p stride entries start bids stopped before after r old h;
  start = table_start p stride entries start bids stopped before after r old h;
  started = table_started p stride entries start bids stopped before after r h;
  same = table_same p stride entries start bids stopped before after r old h;
  same_found = told_found r old;
}
