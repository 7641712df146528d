-- What a status says of a check.
use Rattle.std.proofs.Common.{◌≡◌, ◌≢◌, ℕ, zero, suc, ◌+◌, List, [], ◌∷◌, ◌++◌, map, take, Option, Some, None, refl, sym, ap, subst, ◌∙◌, arith}
use Rattle.std.specs.Prelude.{ℤ, pos, slice_get, Result, Ok, Err, Contains}
use Rattle.auc_graph.specs.declared.arc.Arc.{Arc}
use Rattle.auc_graph.specs.Problem.{Problem}
use Rattle.auc_graph.specs.HallSet.{IsHallSet}
use Rattle.auc_graph.specs.InMemory.{problem_fault}
use Rattle.auc_claim.specs.declared.lists.Pick.{Pick}
use Rattle.auc_claim.specs.declared.cert.CertParts.{CertParts}
use Rattle.auc_claim.specs.declared.refused.CertRefused.{CertRefused}
use Rattle.auc_claim.specs.Claim.{arc_of, chosen, pick_of, choice_faults, first_of, slack_fault, left_over_fault, fault_of}
use Rattle.auc_claim.specs.InRange.{IsInRange}
use Rattle.auc_claim.proofs.ClaimLaws.{is_faultless}
use Rattle.auc_call.specs.declared.found.Found.{Found}
use Rattle.auc_call.specs.declared.checked.Checked.{Checked}
use Rattle.auc_call.specs.declared.checked.Checked.TheVariants.{Valid, Invalid}
use Rattle.auc_call.specs.declared.checked.ClaimFault.{ClaimFault}
use Rattle.auc_call.specs.declared.checked.ClaimFault.TheVariants.{Misplaced, OutOfRange, Refused}
use Rattle.auc_call.specs.declared.solved.Failed.{Failed}
use Rattle.auc_call.specs.declared.solved.Failed.TheVariants.{Sizes, Fault, Start, NoMemory}
use Rattle.auc_call.specs.Shown.{IsLeastAt}
use Rattle.auc_call.specs.Codes.{IsListFault}
use Rattle.auc_call.specs.Checking.{AreClaimSizes, IsClaimFault, IsHallFault, Checks, ChecksHall}
use Rattle.auc_call.specs.Answers.{IsClaimFaultTold, IsHallFaultTold, IsHallShown}
use Rattle.auc_call.specs.Told.{IsClaimChecked, IsHallChecked}
use Rattle.auc_call.specs.Telling.{check_status, check_found, check_statuses, KeepsChecked}
use Rattle.auc_call.proofs.PlaceLaws.{no_pick}
use Rattle.auc_call.proofs.PickLaws.{at_length}
use Rattle.auc_call.proofs.ToldLaws.{apart, list_fault_is}

pub claim_known : (p : Problem) (places : List ℕ) (prices : List ℤ) (cost : ℤ) (r : Result Checked Failed) → Checks p places prices cost r → Contains check_statuses (check_status r)
claim_known p places prices cost (Ok Valid) h = (0, omega arith, refl)
claim_known p places prices cost (Ok (Invalid fault)) h = (2, omega arith, refl)
claim_known p places prices cost (Err Sizes) h = (1, omega arith, refl)
claim_known p places prices cost (Err (Fault fault)) h = (3, omega arith, refl)
claim_known p places prices cost (Err (Start fault)) h = absurd h
claim_known p places prices cost (Err NoMemory) h = (4, omega arith, refl)

pub hall_known : (p : Problem) (persons objects : List ℕ) (r : Result Checked Failed) → ChecksHall p persons objects r → Contains check_statuses (check_status r)
hall_known p persons objects (Ok Valid) h = (0, omega arith, refl)
hall_known p persons objects (Ok (Invalid fault)) h = (2, omega arith, refl)
hall_known p persons objects (Err Sizes) h = absurd h
hall_known p persons objects (Err (Fault fault)) h = (3, omega arith, refl)
hall_known p persons objects (Err (Start fault)) h = absurd h
hall_known p persons objects (Err NoMemory) h = (4, omega arith, refl)

-- the first parts of places are those of the first picks
at_take : (arcs : List Arc) (n k : ℕ) (places : List ℕ) (picks : List Pick) → map (slice_get arcs) places ≡ map Some (chosen k picks) → map (slice_get arcs) (take n places) ≡ map Some (chosen k (take n picks))
at_take arcs zero k places picks e = refl
at_take arcs (suc n) k [] [] e = refl
at_take arcs (suc n) k [] (q ∷ picks) e = absurd cc
at_take arcs (suc n) k (x ∷ places) [] e = absurd cc
at_take arcs (suc n) k (x ∷ places) (q ∷ picks) e =
    let here : slice_get arcs x ≡ Some (arc_of k q) = cc in
    let more : map (slice_get arcs) places ≡ map Some (chosen (k + 1) picks) = cc in
    rw here (ap (λ (os : List (Option Arc)). Some (arc_of k q) ∷ os) (at_take arcs n (k + 1) places picks more))

abbrev option_pick : Option Arc → Pick
option_pick None = no_pick
option_pick (Some a) = pick_of a

abbrev some_arc : Arc → Option Arc
some_arc a = Some a

same_picks : (k : ℕ) (xs ys : List Pick) → map Some (chosen k xs) ≡ map Some (chosen k ys) → xs ≡ ys
same_picks k [] [] e = refl
same_picks k [] (y ∷ ys) e = absurd cc
same_picks k (x ∷ xs) [] e = absurd cc
same_picks k (x ∷ xs) (y ∷ ys) e =
    let here : some_arc (arc_of k x) ≡ some_arc (arc_of k y) = cc in
    let more : map Some (chosen (k + 1) xs) ≡ map Some (chosen (k + 1) ys) = cc in
    let head : x ≡ y = ap option_pick here in
    rw (head, same_picks (k + 1) xs ys more) refl

abbrev none_refused : Option CertRefused
none_refused = None

front_none : (xs ys : List (Option CertRefused)) → first_of (xs ++ ys) ≡ None → first_of xs ≡ None
front_none [] ys e = refl
front_none (None ∷ xs) ys e = front_none xs ys e
front_none (Some x ∷ xs) ys e = absurd cc

first_size : (p : Problem) (cost : ℤ) (picks : List Pick) (prices : List ℤ) → fault_of p (CertParts.Optimal cost picks prices) ≡ None → first_of (choice_faults p cost picks prices) ≡ None
first_size p cost picks prices none = front_none (choice_faults p cost picks prices) (slack_fault p picks prices ∷ left_over_fault picks prices ∷ []) none

sizes_of : (p : Problem) (places : List ℕ) (prices : List ℤ) (cost : ℤ) → IsLeastAt p places prices cost → AreClaimSizes p places prices
sizes_of p places prices cost l =
    let f = is_faultless p cost l.picks prices (first_size p cost l.picks prices l.shown) in
    record { places_are = at_length p.arcs places l.picks l.at ∙ f.size; prices_are = f.priced }

none_is_none : (fault : CertRefused) → none_refused ≡ Some fault → ⊥
none_is_none fault e = absurd cc

pub claim_valid : (p : Problem) (places : List ℕ) (prices : List ℤ) (cost : ℤ) (r : Result Checked Failed) → Checks p places prices cost r → check_status r ≡ pos 0 → IsLeastAt p places prices cost
claim_valid p places prices cost (Ok Valid) h e = h
claim_valid p places prices cost (Ok (Invalid fault)) h e = absurd (omega (arith, apart 3 0 e))
claim_valid p places prices cost (Err Sizes) h e = absurd (omega (arith, apart 2 0 e))
claim_valid p places prices cost (Err (Fault fault)) h e = absurd (omega (arith, apart 5 0 e))
claim_valid p places prices cost (Err (Start fault)) h e = absurd h
claim_valid p places prices cost (Err NoMemory) h e = absurd (omega (arith, apart 6 0 e))

claim_fault_of : (p : Problem) (places : List ℕ) (prices : List ℤ) (cost : ℤ) (fault : ClaimFault) → AreClaimSizes p places prices × IsClaimFault p places prices cost fault → IsClaimFault p places prices cost fault
claim_fault_of p places prices cost fault h = h.1

pub claim_invalid : (p : Problem) (places : List ℕ) (prices : List ℤ) (cost : ℤ) (r : Result Checked Failed) (old : Found) → Checks p places prices cost r → check_status r ≡ pos 3 → IsClaimFaultTold p places prices cost (check_found r old).kind (check_found r old).place
claim_invalid p places prices cost (Ok Valid) old h e = absurd (omega (arith, apart 0 3 e))
claim_invalid p places prices cost (Ok (Invalid fault)) old h e = record { fault = fault; is = claim_fault_of p places prices cost fault h; kind_is = refl; place_is = refl }
claim_invalid p places prices cost (Err Sizes) old h e = absurd (omega (arith, apart 2 3 e))
claim_invalid p places prices cost (Err (Fault fault)) old h e = absurd (omega (arith, apart 5 3 e))
claim_invalid p places prices cost (Err (Start fault)) old h e = absurd h
claim_invalid p places prices cost (Err NoMemory) old h e = absurd (omega (arith, apart 6 3 e))

pub claim_refused : (p : Problem) (places : List ℕ) (prices : List ℤ) (cost : ℤ) (r : Result Checked Failed) (old : Found) → Checks p places prices cost r → check_status r ≡ pos 5 → IsListFault (problem_fault p) (check_found r old).kind (check_found r old).place
claim_refused p places prices cost (Ok Valid) old h e = absurd (omega (arith, apart 0 5 e))
claim_refused p places prices cost (Ok (Invalid fault)) old h e = absurd (omega (arith, apart 3 5 e))
claim_refused p places prices cost (Err Sizes) old h e = absurd (omega (arith, apart 2 5 e))
claim_refused p places prices cost (Err (Fault fault)) old h e = list_fault_is (problem_fault p) fault h.1
claim_refused p places prices cost (Err (Start fault)) old h e = absurd h
claim_refused p places prices cost (Err NoMemory) old h e = absurd (omega (arith, apart 6 5 e))

pub claim_sizes : (p : Problem) (places : List ℕ) (prices : List ℤ) (cost : ℤ) (r : Result Checked Failed) → Checks p places prices cost r → check_status r ≡ pos 2 → AreClaimSizes p places prices → ⊥
claim_sizes p places prices cost (Ok Valid) h e = absurd (omega (arith, apart 0 2 e))
claim_sizes p places prices cost (Ok (Invalid fault)) h e = absurd (omega (arith, apart 3 2 e))
claim_sizes p places prices cost (Err Sizes) h e = h
claim_sizes p places prices cost (Err (Fault fault)) h e = absurd (omega (arith, apart 5 2 e))
claim_sizes p places prices cost (Err (Start fault)) h e = absurd h
claim_sizes p places prices cost (Err NoMemory) h e = absurd (omega (arith, apart 6 2 e))

pub sizes_claim : (p : Problem) (places : List ℕ) (prices : List ℤ) (cost : ℤ) (r : Result Checked Failed) → Checks p places prices cost r → (AreClaimSizes p places prices → ⊥) → check_status r ≡ pos 2
sizes_claim p places prices cost (Ok Valid) h not_so = absurd (not_so (sizes_of p places prices cost h))
sizes_claim p places prices cost (Ok (Invalid fault)) h not_so = absurd (not_so h.0)
sizes_claim p places prices cost (Err Sizes) h not_so = refl
sizes_claim p places prices cost (Err (Fault fault)) h not_so = absurd (not_so h.0)
sizes_claim p places prices cost (Err (Start fault)) h not_so = absurd h
sizes_claim p places prices cost (Err NoMemory) h not_so = absurd (not_so h)

-- no claim that is shown has a fault
no_fault : (p : Problem) (places : List ℕ) (prices : List ℤ) (cost : ℤ) (fault : ClaimFault) → IsLeastAt p places prices cost → IsClaimFault p places prices cost fault → ⊥
no_fault p places prices cost (Misplaced person) l m = m.not_his (take (person + 1) l.picks) (at_take p.arcs (person + 1) 0 places l.picks l.at)
no_fault p places prices cost OutOfRange l c =
    let same : l.picks ≡ c.picks = same_picks 0 l.picks c.picks (sym l.at ∙ c.at) in
    c.has (subst (λ (xs : List Pick). IsInRange (CertParts.Optimal cost xs prices)) same l.in_range)
no_fault p places prices cost (Refused fault) l c =
    let same : l.picks ≡ c.picks = same_picks 0 l.picks c.picks (sym l.at ∙ c.at) in
    none_is_none fault (sym (subst (λ (xs : List Pick). fault_of p (CertParts.Optimal cost xs prices) ≡ None) same l.shown) ∙ c.has)

pub claim_passes : (p : Problem) (places : List ℕ) (prices : List ℤ) (cost : ℤ) (r : Result Checked Failed) → Checks p places prices cost r → IsLeastAt p places prices cost → check_status r ≢ pos 6 → check_status r ≡ pos 0
claim_passes p places prices cost (Ok Valid) h l others = refl
claim_passes p places prices cost (Ok (Invalid fault)) h l others = absurd (no_fault p places prices cost fault l h.1)
claim_passes p places prices cost (Err Sizes) h l others = absurd (h (sizes_of p places prices cost l))
claim_passes p places prices cost (Err (Fault fault)) h l others = absurd (h.2 l.problem)
claim_passes p places prices cost (Err (Start fault)) h l others = absurd h
claim_passes p places prices cost (Err NoMemory) h l others = absurd (others refl)

pub hall_valid : (p : Problem) (persons objects : List ℕ) (r : Result Checked Failed) → ChecksHall p persons objects r → check_status r ≡ pos 0 → IsHallSet p persons objects
hall_valid p persons objects (Ok Valid) h e = h.1
hall_valid p persons objects (Ok (Invalid fault)) h e = absurd (omega (arith, apart 3 0 e))
hall_valid p persons objects (Err Sizes) h e = absurd h
hall_valid p persons objects (Err (Fault fault)) h e = absurd (omega (arith, apart 5 0 e))
hall_valid p persons objects (Err (Start fault)) h e = absurd h
hall_valid p persons objects (Err NoMemory) h e = absurd (omega (arith, apart 6 0 e))

pub hall_invalid : (p : Problem) (persons objects : List ℕ) (r : Result Checked Failed) (old : Found) → ChecksHall p persons objects r → check_status r ≡ pos 3 → IsHallFaultTold p persons objects (check_found r old).kind (check_found r old).place
hall_invalid p persons objects (Ok Valid) old h e = absurd (omega (arith, apart 0 3 e))
hall_invalid p persons objects (Ok (Invalid fault)) old h e = record { fault = fault; is = h; kind_is = refl; place_is = refl }
hall_invalid p persons objects (Err Sizes) old h e = absurd h
hall_invalid p persons objects (Err (Fault fault)) old h e = absurd (omega (arith, apart 5 3 e))
hall_invalid p persons objects (Err (Start fault)) old h e = absurd h
hall_invalid p persons objects (Err NoMemory) old h e = absurd (omega (arith, apart 6 3 e))

pub hall_refused : (p : Problem) (persons objects : List ℕ) (r : Result Checked Failed) (old : Found) → ChecksHall p persons objects r → check_status r ≡ pos 5 → IsListFault (problem_fault p) (check_found r old).kind (check_found r old).place
hall_refused p persons objects (Ok Valid) old h e = absurd (omega (arith, apart 0 5 e))
hall_refused p persons objects (Ok (Invalid fault)) old h e = absurd (omega (arith, apart 3 5 e))
hall_refused p persons objects (Err Sizes) old h e = absurd h
hall_refused p persons objects (Err (Fault fault)) old h e = list_fault_is (problem_fault p) fault h.0
hall_refused p persons objects (Err (Start fault)) old h e = absurd h
hall_refused p persons objects (Err NoMemory) old h e = absurd (omega (arith, apart 6 5 e))

no_hall_fault : (p : Problem) (persons objects : List ℕ) (fault : ClaimFault) → IsHallShown p persons objects → IsHallFault p persons objects fault → ⊥
no_hall_fault p persons objects (Misplaced person) s m = m
no_hall_fault p persons objects OutOfRange s c = c s.in_range
no_hall_fault p persons objects (Refused fault) s c = none_is_none fault (sym s.shown ∙ c)

pub hall_passes : (p : Problem) (persons objects : List ℕ) (r : Result Checked Failed) → ChecksHall p persons objects r → IsHallShown p persons objects → check_status r ≢ pos 6 → check_status r ≡ pos 0
hall_passes p persons objects (Ok Valid) h s others = refl
hall_passes p persons objects (Ok (Invalid fault)) h s others = absurd (no_hall_fault p persons objects fault s h)
hall_passes p persons objects (Err Sizes) h s others = absurd h
hall_passes p persons objects (Err (Fault fault)) h s others = absurd (h.1 s.problem)
hall_passes p persons objects (Err (Start fault)) h s others = absurd h
hall_passes p persons objects (Err NoMemory) h s others = absurd (others refl)

pub claim_same : (p : Problem) (places : List ℕ) (prices : List ℤ) (cost : ℤ) (r : Result Checked Failed) (old : Found) → Checks p places prices cost r → KeepsChecked (check_status r) old (check_found r old)
claim_same p places prices cost (Ok Valid) old h = record { cost = refl; lower = refl; persons = refl; objects = refl; kind = λ a b. refl; place = λ a b. refl }
claim_same p places prices cost (Ok (Invalid fault)) old h = record { cost = refl; lower = refl; persons = refl; objects = refl; kind = λ a b. absurd (a refl); place = λ a b. absurd (a refl) }
claim_same p places prices cost (Err Sizes) old h = record { cost = refl; lower = refl; persons = refl; objects = refl; kind = λ a b. refl; place = λ a b. refl }
claim_same p places prices cost (Err (Fault fault)) old h = record { cost = refl; lower = refl; persons = refl; objects = refl; kind = λ a b. absurd (b refl); place = λ a b. absurd (b refl) }
claim_same p places prices cost (Err (Start fault)) old h = absurd h
claim_same p places prices cost (Err NoMemory) old h = record { cost = refl; lower = refl; persons = refl; objects = refl; kind = λ a b. refl; place = λ a b. refl }

pub hall_same : (p : Problem) (persons objects : List ℕ) (r : Result Checked Failed) (old : Found) → ChecksHall p persons objects r → KeepsChecked (check_status r) old (check_found r old)
hall_same p persons objects (Ok Valid) old h = record { cost = refl; lower = refl; persons = refl; objects = refl; kind = λ a b. refl; place = λ a b. refl }
hall_same p persons objects (Ok (Invalid fault)) old h = record { cost = refl; lower = refl; persons = refl; objects = refl; kind = λ a b. absurd (a refl); place = λ a b. absurd (a refl) }
hall_same p persons objects (Err Sizes) old h = absurd h
hall_same p persons objects (Err (Fault fault)) old h = record { cost = refl; lower = refl; persons = refl; objects = refl; kind = λ a b. absurd (b refl); place = λ a b. absurd (b refl) }
hall_same p persons objects (Err (Start fault)) old h = absurd h
hall_same p persons objects (Err NoMemory) old h = record { cost = refl; lower = refl; persons = refl; objects = refl; kind = λ a b. refl; place = λ a b. refl }

-- all of it, of an assignment
pub claim_told : (p : Problem) (places : List ℕ) (prices : List ℤ) (cost : ℤ) (r : Result Checked Failed) (old : Found) → Checks p places prices cost r → IsClaimChecked p places prices cost (check_status r) old (check_found r old)
claim_told p places prices cost r old h = record {
  known = claim_known p places prices cost r h;
  valid = claim_valid p places prices cost r h;
  passes = claim_passes p places prices cost r h;
  sizes = (claim_sizes p places prices cost r h, sizes_claim p places prices cost r h);
  invalid = claim_invalid p places prices cost r old h;
  refused = claim_refused p places prices cost r old h;
  same = claim_same p places prices cost r old h;
}

hall_fits : (p : Problem) (persons objects : List ℕ) (r : Result Checked Failed) → ChecksHall p persons objects r → check_status r ≡ pos 2 → Unit {0} → ⊥
hall_fits p persons objects (Ok Valid) h e fits = omega (arith, apart 0 2 e)
hall_fits p persons objects (Ok (Invalid fault)) h e fits = omega (arith, apart 3 2 e)
hall_fits p persons objects (Err Sizes) h e fits = h
hall_fits p persons objects (Err (Fault fault)) h e fits = omega (arith, apart 5 2 e)
hall_fits p persons objects (Err (Start fault)) h e fits = h
hall_fits p persons objects (Err NoMemory) h e fits = omega (arith, apart 6 2 e)

-- and of a Hall set
pub hall_told : (p : Problem) (persons objects : List ℕ) (r : Result Checked Failed) (old : Found) → ChecksHall p persons objects r → IsHallChecked p persons objects (check_status r) old (check_found r old)
hall_told p persons objects r old h = record {
  known = hall_known p persons objects r h;
  valid = hall_valid p persons objects r h;
  passes = hall_passes p persons objects r h;
  sizes = (hall_fits p persons objects r h, λ not_so. absurd (not_so tt));
  invalid = hall_invalid p persons objects r old h;
  refused = hall_refused p persons objects r old h;
  same = hall_same p persons objects r old h;
}
