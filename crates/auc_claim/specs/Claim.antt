-- Which claims the checker accepts, and which fault it reports otherwise.
use Rattle.std.specs.Prelude.{◌≡◌, ℕ, ◌+◌, ◌==◌, ◌<◌, Bool, true, false, not, ◌&&◌, ◌||◌, nat_lt, if◌then◌else◌, List, [], ◌∷◌, ◌++◌, length, map, Option, Some, None, Result, Ok, Err, ℤ, pos, ◌+ℤ◌, ◌≤ℤ◌, int_le, nat_eq, slice_index_or}
use Rattle.std.specs.Option.{option_map}
use Rattle.std.specs.List.{position, list_all, list_any, range_with_len}
use Rattle.std.specs.Ordering.{int_eq}
use Rattle.auc_graph.specs.declared.arc.Arc.{Arc}
use Rattle.auc_graph.specs.Problem.{Problem}
use Rattle.auc_claim.specs.declared.lists.Pick.{Pick}
use Rattle.auc_claim.specs.declared.cert.CertParts.{CertParts}
use Rattle.auc_claim.specs.declared.cert.CertParts.TheVariants.{Optimal, Infeasible, Bracket}
use Rattle.auc_claim.specs.declared.refused.CertRefused.{CertRefused}
use Rattle.auc_claim.specs.declared.refused.CertRefused.TheVariants.{WrongSize, NoSuchArc, ObjectTwice, WrongCost, Slack, LeftOver, NotHall, WrongBound}
use Rattle.auc_graph.specs.Assignment.{total_cost, IsAssignment, IsLeast}
use Rattle.auc_graph.specs.HallSet.{IsHallSet}
use Rattle.auc_graph.specs.Dual.{price_at, arc_value, scale_of, dual, is_lower}

-- the arc that a pick names
abbrev pub arc_of : ℕ → Pick → Arc
arc_of person p = record { person = person; object = p.object; cost = p.cost }

-- the pick of an arc's person: the arc's object and cost
abbrev pub pick_of : Arc → Pick
pick_of a = record { object = a.object; cost = a.cost }

-- the arcs that picks name, for the persons from k on
abbrev pub chosen : ℕ → List Pick → List Arc
chosen k [] = []
chosen k (p ∷ picks) = arc_of k p ∷ chosen (k + 1) picks

-- two arcs of the same person, object and cost
abbrev pub same_arc : Arc → Arc → Bool
same_arc a b = (a.person == b.person) && (a.object == b.object) && int_eq a.cost b.cost

-- this arc is none of the problem's
abbrev pub is_missing : List Arc → Arc → Bool
is_missing arcs c = list_all (λ a. not (same_arc c a)) arcs

-- the chosen arc c beside an arc a: a is of another person, or the value of c is at most 1 above that of a
abbrev pub is_slack_beside : ℕ → List ℤ → Arc → Arc → Bool
is_slack_beside s prices c a = not (c.person == a.person) || int_le (arc_value s prices c) (arc_value s prices a +ℤ pos 1)

-- epsilon-complementary slackness at eps 1, as a test: no arc of the same person is better than c by more than 1
abbrev pub is_slack_right : ℕ → List ℤ → List Arc → Arc → Bool
is_slack_right s prices arcs c = list_all (is_slack_beside s prices c) arcs

-- the first object of the list that occurs earlier in it, or in `earlier`
abbrev pub repeated : List ℕ → List ℕ → Option ℕ
repeated earlier [] = None
repeated earlier (j ∷ js) = if list_any (nat_eq j) earlier then Some j else repeated (j ∷ earlier) js

-- this fault if the flag is set, else none
abbrev pub fault_if : Bool → CertRefused → Option CertRefused
fault_if b fault = if b then Some fault else None

-- a pick for each person, and a price for each object
abbrev pub is_sized : Problem → List Pick → List ℤ → Bool
is_sized p choice prices = (length choice == p.persons) && (length prices == p.objects)

-- the results of the tests of a choice, in their order
abbrev pub choice_faults : Problem → ℤ → List Pick → List ℤ → List (Option CertRefused)
choice_faults p cost choice prices =
    fault_if (not (is_sized p choice prices)) WrongSize
    ∷ option_map (λ i. NoSuchArc i) (position (is_missing p.arcs) (chosen 0 choice))
    ∷ option_map (λ j. ObjectTwice j) (repeated [] (map (λ c. c.object) choice))
    ∷ fault_if (not (int_eq cost (total_cost (chosen 0 choice)))) WrongCost
    ∷ []

-- the result of the slackness test: the first person with an arc that is better than the chosen one by more than 1
abbrev pub slack_fault : Problem → List Pick → List ℤ → Option CertRefused
slack_fault p choice prices =
    option_map (λ i. Slack i) (position (λ c. not (is_slack_right (scale_of p) prices p.arcs c)) (chosen 0 choice))

-- the objects of the picks
abbrev pub picked : List Pick → List ℕ
picked choice = map (λ c. c.object) choice

-- no person picks the object, and its price isn't 0
abbrev pub is_left_over : List Pick → List ℤ → ℕ → Bool
is_left_over choice prices j = not (list_any (nat_eq j) (picked choice)) && not (int_eq (price_at prices j) (pos 0))

-- the result of the test of unassigned objects: the first one whose price isn't 0
abbrev pub left_over_fault : List Pick → List ℤ → Option CertRefused
left_over_fault choice prices = option_map (λ j. LeftOver j) (position (is_left_over choice prices) (range_with_len 0 (length prices)))

-- the result of the test of the lower bound, which has to be the least cost that the dual bound of the prices allows
abbrev pub bound_fault : Problem → ℤ → List ℤ → Option CertRefused
bound_fault p lower prices = fault_if (not (is_lower (scale_of p) (dual p prices) lower)) WrongBound

abbrev pub are_below : ℕ → List ℕ → Bool
are_below n numbers = list_all (λ k. nat_lt k n) numbers

abbrev pub is_listed : List ℕ → ℕ → Bool
is_listed numbers k = list_any (nat_eq k) numbers

-- the arc is of an unlisted person, or leads to a listed object
abbrev pub stays_within : List ℕ → List ℕ → Arc → Bool
stays_within persons objects a = not (is_listed persons a.person) || is_listed objects a.object

-- the test of a Hall set: fewer objects than persons, all of the problem, and no arc of a listed person leads to an
-- unlisted object
abbrev pub is_hall : Problem → List ℕ → List ℕ → Bool
is_hall p persons objects =
    (are_below p.persons persons && are_below p.objects objects) &&
    (nat_lt (length objects) (length persons) && list_all (stays_within persons objects) p.arcs)

-- the results of the tests of a claim, in their order
abbrev pub faults_of : Problem → CertParts → List (Option CertRefused)
faults_of p (Optimal cost choice prices) =
    choice_faults p cost choice prices ++ slack_fault p choice prices ∷ left_over_fault choice prices ∷ []
faults_of p (Infeasible persons objects) = fault_if (not (is_hall p persons objects)) NotHall ∷ []
faults_of p (Bracket reason lower cost choice prices) = choice_faults p cost choice prices ++ bound_fault p lower prices ∷ []

-- the first fault of the results, if there is one
abbrev pub first_of : List (Option CertRefused) → Option CertRefused
first_of [] = None
first_of (None ∷ faults) = first_of faults
first_of (Some e ∷ faults) = Some e

-- the fault of a claim, or none
abbrev pub fault_of : Problem → CertParts → Option CertRefused
fault_of p c = first_of (faults_of p c)

-- the verdict reports this fault, or is Ok where there is none
abbrev pub IsVerdict : {X : Type 0} → Option CertRefused → Result X CertRefused → Type 0
IsVerdict fault (Ok x) = fault ≡ None
IsVerdict fault (Err e) = fault ≡ Some e

-- a bracket: an assignment of this cost, and a lower bound that no assignment costs less than
pub record IsBracket (p : Problem) (lower cost : ℤ) (choice : List Arc) : Type 0 where
  pub assignment : IsAssignment p choice
  pub cost_is : total_cost choice ≡ cost
  pub bound : (other : List Arc) → IsAssignment p other → lower ≤ℤ total_cost other

-- what a certificate claims of a problem: a least-cost assignment, a Hall set or a bracket; prices are no part of it
abbrev pub IsAllowed : Problem → CertParts → Type 0
IsAllowed p (Optimal cost choice prices) = IsLeast p (chosen 0 choice) × (total_cost (chosen 0 choice) ≡ cost)
IsAllowed p (Infeasible persons objects) = IsHallSet p persons objects
IsAllowed p (Bracket reason lower cost choice prices) = IsBracket p lower cost (chosen 0 choice)

-- a flag for each person: the result of a test on the arc that the person picks
abbrev pub AreFlags : (Arc → Bool) → List Pick → List Bool → Type 0
AreFlags test choice flags = flags ≡ map test (chosen 0 choice)

-- the value of a pick at prices
abbrev pub pick_value : ℕ → List ℤ → Pick → ℤ
pick_value s prices p = arc_value s prices (arc_of 0 p)

-- a flag for each number: whether it is listed
abbrev pub AreListed : List ℕ → List Bool → Type 0
AreListed numbers flags = (k : ℕ) → k < length flags → slice_index_or flags k false ≡ is_listed numbers k

abbrev pub is_flag : Bool → Bool → Bool
is_flag true b = b
is_flag false b = not b
