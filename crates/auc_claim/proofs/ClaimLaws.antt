-- What the checker's verdicts prove of the claim.
use Rattle.std.proofs.Common.{◌≡◌, ℕ, suc, ◌+◌, ◌<◌, Bool, true, false, cond, not, eq-eqb, ◌&&◌, ◌||◌, eqb, nat_lt, List, [], ◌∷◌, ◌++◌, length, map, get_or, Option, Some, None, refl, sym, ap, subst, ◌∙◌, arith, inl, inr, All}
use Rattle.std.specs.Prelude.{Result, Ok, Err, IsOk, ℤ, pos, ◌+ℤ◌, ◌≤ℤ◌, nat_eq, ◌==◌, Contains, int_le}
use Rattle.std.specs.List.{position, position_or_len, list_any, list_all, IsDistinct, AllByRecursion, range_with_len}
use Rattle.std.specs.Int.Signed.{le_z_yes}
use Rattle.std.specs.Prelude.{T}
use Rattle.std.specs.Ordering.{int_eq}
use Rattle.std.proofs.lemmas.Bool.{cases_Bool, cases_lt, eqb-true}
use Rattle.std.proofs.lemmas.Bool.Decides.{nat_tests, Decides-and, Decides-eqb, Decides-int_eq}
use Rattle.std.proofs.lemmas.List.{length-map, get_or_past}
use Rattle.std.proofs.lemmas.List.FromFn.{length-range_with_len, get_or-range_with_len}
use Rattle.std.proofs.lemmas.Map.Views.{Contains-from_any}
use Rattle.std.proofs.lemmas.List.Sums.{position_or_len_is, fails_before_first}
use Rattle.std.proofs.lemmas.List.Elements.{All-head, All-tail, All-nil, All-cons}
use Rattle.auc_graph.specs.declared.arc.Arc.{Arc}
use Rattle.auc_graph.specs.Problem.{Problem, IsProblem, IsWithin}
use Rattle.auc_claim.specs.declared.lists.Pick.{Pick}
use Rattle.std.specs.Option.{option_map}
use Rattle.auc_claim.specs.declared.cert.CertParts.{CertParts}
use Rattle.auc_claim.specs.declared.cert.CertParts.TheVariants.{Optimal, Infeasible, Bracket}
use Rattle.auc_claim.specs.declared.refused.CertRefused.{CertRefused}
use Rattle.auc_claim.specs.declared.refused.CertRefused.TheVariants.{WrongSize, NoSuchArc, ObjectTwice, WrongCost, Slack, LeftOver, NotHall, WrongBound, NoMemory}
use Rattle.auc_graph.specs.HallSet.{IsHallSet}
use Rattle.auc_graph.specs.Memory.{AnswersUnless}
use Rattle.auc_claim.proofs.HallLaws.{hall_set_is, hall_set_passes}
use Rattle.auc_graph.specs.Assignment.{person_of, object_of, total_cost, IsAssignment}
use Rattle.auc_graph.specs.Dual.{price_at, arc_value, scale_of, dual, is_lower, IsSlackRight, IsNoPriceLeft}
use mathlib.Core.Bool.{beq}
use Rattle.auc_claim.specs.InRange.{IsInRange}
use Rattle.auc_claim.specs.Claim.{is_flag, arc_of, chosen, same_arc, is_missing, is_slack_beside, is_slack_right, repeated, fault_if, is_sized, choice_faults, slack_fault, picked, is_left_over, left_over_fault, bound_fault, first_of, fault_of, IsAllowed, IsVerdict, is_hall}
use Rattle.auc_graph.proofs.PriceLaws.{not_negative}
use Rattle.auc_graph.proofs.DualLaws.{dual_is_below, slack_right_is_least}
use Rattle.auc_graph.proofs.LowerLaws.{lower_passed}

-- ---- the first place that passes

pub place_is : {X : Type 0} (p : X → Bool) (xs : List X) (i : ℕ) (d : X) → i < length xs → ((k : ℕ) → k < i → p (get_or xs k d) ≡ false) → p (get_or xs i d) ≡ true → Some i ≡ position p xs
place_is p xs i d lt before here =
    let e : position_or_len p xs ≡ i = position_or_len_is p xs i d (omega arith) before (λ _. here) in
    let t : nat_lt (position_or_len p xs) (length xs) ≡ true = grind (arith, nat_tests) in
    rw (t, e) refl

pub no_place : {X : Type 0} (p : X → Bool) (xs : List X) (d : X) → ((k : ℕ) → k < length xs → p (get_or xs k d) ≡ false) → None ≡ position p xs
no_place p xs d none =
    let e : position_or_len p xs ≡ length xs = position_or_len_is p xs (length xs) d (omega arith) none (λ lt. absurd (omega arith)) in
    let t : nat_lt (position_or_len p xs) (length xs) ≡ false = grind (arith, nat_tests) in
    rw t refl

pub all_fail : {X : Type 0} (p : X → Bool) (xs : List X) → position p xs ≡ None → All (λ x. p x ≡ false) xs
all_fail p xs h =
    elim (cases_lt (position_or_len p xs) (length xs)) [
      | inl lt ↦ let t : nat_lt (position_or_len p xs) (length xs) ≡ true = grind (arith, nat_tests) in absurd (let k = rw t at h in cc)
      | inr le ↦ λ k d lt. fails_before_first p xs k d (omega arith)
    ]

prefix_map : {X Y : Type 0} (p : Y → Bool) (f : X → Y) (xs : List X) → position_or_len p (map f xs) ≡ position_or_len (λ x. p (f x)) xs
prefix_map p f [] = refl
prefix_map p f (x ∷ xs) = ap (λ (n : ℕ). cond (not (p (f x))) (1 + n) 0) (prefix_map p f xs)

pub place_in_map : {X Y : Type 0} (p : Y → Bool) (f : X → Y) (xs : List X) → position p (map f xs) ≡ position (λ x. p (f x)) xs
place_in_map p f xs = rw (prefix_map p f xs, length-map xs f) refl

-- ---- the parts of an accepted claim

pub persons_are : (k : ℕ) (picks : List Pick) → map person_of (chosen k picks) ≡ range_with_len k (length picks)
persons_are k [] = refl
persons_are k (p ∷ picks) = ap (λ (js : List ℕ). k ∷ js) (persons_are (k + 1) picks)

pub objects_are : (k : ℕ) (picks : List Pick) → map object_of (chosen k picks) ≡ map (λ c. c.object) picks
objects_are k [] = refl
objects_are k (p ∷ picks) = ap (λ (js : List ℕ). p.object ∷ js) (objects_are (k + 1) picks)

abbrev made : ℕ → ℕ → ℤ → Arc
made i j z = record { person = i; object = j; cost = z }

same_is : (a b : Arc) → same_arc a b ≡ true → a ≡ b
same_is a b h =
    let e = (Decides-and ((a.person == b.person) && (a.object == b.object)) (int_eq a.cost b.cost) (Decides-and (a.person == b.person) (a.object == b.object) (Decides-eqb a.person b.person) (Decides-eqb a.object b.object)) (Decides-int_eq a.cost b.cost)).0 h in
    ap (λ (i : ℕ). made i a.object a.cost) e.0.0 ∙ ap (λ (j : ℕ). made b.person j a.cost) e.0.1 ∙ ap (λ (z : ℤ). made b.person b.object z) e.1

is_there : (arcs : List Arc) (c : Arc) → is_missing arcs c ≡ false → Contains arcs c
is_there [] c h = absurd cc
is_there (a ∷ arcs) c h =
    elim (cases_Bool (same_arc c a)) [
      | inl same ↦ (0, omega arith, sym (same_is c a same))
      | inr other ↦ let rest = is_there arcs c (rw other at h) in (suc rest.0, omega (arith, rest.1), rest.2)
    ]

or_false : (x y : Bool) → (x || y) ≡ false → (x ≡ false) × (y ≡ false)
or_false true y h = absurd cc
or_false false y h = (refl, h)

not_among : (j : ℕ) (earlier js : List ℕ) → AllByRecursion (λ i. list_any (nat_eq i) (j ∷ earlier) ≡ false) js → AllByRecursion (λ i. eqb j i ≡ false) js × AllByRecursion (λ i. list_any (nat_eq i) earlier ≡ false) js
not_among j earlier [] h = (tt, tt)
not_among j earlier (i ∷ js) h =
    let here = or_false (eqb i j) (list_any (nat_eq i) earlier) h.0 in
    let rest = not_among j earlier js h.1 in
    let turned : eqb j i ≡ false = grind (arith, nat_tests, here.0) in
    ((turned, rest.0), (here.1, rest.1))

never_seen : (earlier js : List ℕ) → repeated earlier js ≡ None → IsDistinct eqb js × AllByRecursion (λ j. list_any (nat_eq j) earlier ≡ false) js
unfolding IsDistinct
never_seen earlier [] h = (tt, tt)
never_seen earlier (j ∷ js) h =
    elim (cases_Bool (list_any (nat_eq j) earlier)) [
      | inl seen ↦ absurd (let k = rw seen at h in cc)
      | inr fresh ↦
          let rest = never_seen (j ∷ earlier) js (rw fresh at h) in
          let both = not_among j earlier js rest.1 in
          ((both.0, rest.0), (fresh, both.1))
    ]

not_worse : (s : ℕ) (prices : List ℤ) (c a : Arc) → is_slack_beside s prices c a ≡ true → a.person ≡ c.person → arc_value s prices c ≤ℤ (arc_value s prices a +ℤ pos 1)
not_worse s prices c a h person =
    let same : eqb c.person a.person ≡ true = eq-eqb c.person a.person (sym person) in
    let le : int_le (arc_value s prices c) (arc_value s prices a +ℤ pos 1) ≡ true = rw same at h in
    le_z_yes (subst (λ (b : Bool). T b) (sym le) tt)

and_both : (x y : Bool) → (x && y) ≡ true → (x ≡ true) × (y ≡ true)
and_both true y h = (refl, h)
and_both false y h = absurd cc

right_at : (s : ℕ) (prices : List ℤ) (arcs : List Arc) (c : Arc) → is_slack_right s prices arcs c ≡ true → IsSlackRight (pos 1) s prices arcs c
right_at s prices [] c h = All-nil (λ (a : Arc). a.person ≡ c.person → arc_value s prices c ≤ℤ (arc_value s prices a +ℤ pos 1))
right_at s prices (a ∷ arcs) c h =
    let both = and_both (is_slack_beside s prices c a) (list_all (is_slack_beside s prices c) arcs) h in
    All-cons (λ (b : Arc). b.person ≡ c.person → arc_value s prices c ≤ℤ (arc_value s prices b +ℤ pos 1)) a arcs (not_worse s prices c a both.0) (right_at s prices arcs c both.1)

pub not_false : (b : Bool) → not b ≡ false → b ≡ true
not_false true h = refl
not_false false h = absurd cc

pub flag_hit : (b f : Bool) → beq b f ≡ true → is_flag f b ≡ true
flag_hit true true h = refl
flag_hit true false h = absurd cc
flag_hit false true h = absurd cc
flag_hit false false h = refl

-- ---- which fault is the first one

pub right_size : (p : Problem) (choice : List Pick) (prices : List ℤ) → length choice ≡ p.persons → length prices ≡ p.objects → not (is_sized p choice prices) ≡ false
right_size p choice prices size priced =
    let one : eqb (length choice) p.persons ≡ true = eq-eqb (length choice) p.persons size in
    let two : eqb (length prices) p.objects ≡ true = eq-eqb (length prices) p.objects priced in
    rw (one, two) refl

pub right_cost : (a b : ℤ) → a ≡ b → not (int_eq a b) ≡ false
right_cost a b is = let e : int_eq a b ≡ true = (Decides-int_eq a b).1 is in rw e refl

pub wrong_cost : (a b : ℤ) → (a ≡ b → ⊥) → not (int_eq a b) ≡ true
wrong_cost a b other =
    elim (cases_Bool (int_eq a b)) [
      | inl same ↦ absurd (other ((Decides-int_eq a b).0 same))
      | inr differs ↦ rw differs refl
    ]

-- what a choice without a fault is
pub record IsFaultless (p : Problem) (cost : ℤ) (choice : List Pick) (prices : List ℤ) : Type 0 where
  pub size : length choice ≡ p.persons
  pub priced : length prices ≡ p.objects
  pub missing : position (is_missing p.arcs) (chosen 0 choice) ≡ None
  pub twice : repeated [] (map (λ c. c.object) choice) ≡ None
  pub cost_is : cost ≡ total_cost (chosen 0 choice)

pub none_if : (b : Bool) (e : CertRefused) (faults : List (Option CertRefused)) → first_of (fault_if b e ∷ faults) ≡ None → (b ≡ false) × (first_of faults ≡ None)
none_if true e faults h = absurd cc
none_if false e faults h = (refl, h)

none_map : (o : Option ℕ) (f : ℕ → CertRefused) (faults : List (Option CertRefused)) → first_of (option_map f o ∷ faults) ≡ None → (o ≡ None) × (first_of faults ≡ None)
none_map (Some k) f faults h = absurd cc
none_map None f faults h = (refl, h)

pub is_faultless : (p : Problem) (cost : ℤ) (choice : List Pick) (prices : List ℤ) → first_of (choice_faults p cost choice prices) ≡ None → IsFaultless p cost choice prices
is_faultless p cost choice prices h =
    let size = none_if (not (is_sized p choice prices)) WrongSize (option_map (λ i. NoSuchArc i) (position (is_missing p.arcs) (chosen 0 choice)) ∷ option_map (λ j. ObjectTwice j) (repeated [] (map (λ c. c.object) choice)) ∷ fault_if (not (int_eq cost (total_cost (chosen 0 choice)))) WrongCost ∷ []) h in
    let sizes = and_both (length choice == p.persons) (length prices == p.objects) (not_false (is_sized p choice prices) size.0) in
    let missing = none_map (position (is_missing p.arcs) (chosen 0 choice)) (λ i. NoSuchArc i) (option_map (λ j. ObjectTwice j) (repeated [] (map (λ c. c.object) choice)) ∷ fault_if (not (int_eq cost (total_cost (chosen 0 choice)))) WrongCost ∷ []) size.1 in
    let twice = none_map (repeated [] (map (λ c. c.object) choice)) (λ j. ObjectTwice j) (fault_if (not (int_eq cost (total_cost (chosen 0 choice)))) WrongCost ∷ []) missing.1 in
    let cost_is = none_if (not (int_eq cost (total_cost (chosen 0 choice)))) WrongCost [] twice.1 in
    record {
      size = (Decides-eqb (length choice) p.persons).0 sizes.0;
      priced = (Decides-eqb (length prices) p.objects).0 sizes.1;
      missing = missing.0;
      twice = twice.0;
      cost_is = (Decides-int_eq cost (total_cost (chosen 0 choice))).0 (not_false (int_eq cost (total_cost (chosen 0 choice))) cost_is.0);
    }

-- ---- what a choice without a fault is

pub is_assigned : (p : Problem) (cost : ℤ) (choice : List Pick) (prices : List ℤ) → IsFaultless p cost choice prices → IsAssignment p (chosen 0 choice)
is_assigned p cost choice prices is =
    record {
      persons = persons_are 0 choice ∙ ap (range_with_len 0) is.size;
      arcs = λ k d lt. is_there p.arcs (get_or (chosen 0 choice) k d) (all_fail (is_missing p.arcs) (chosen 0 choice) is.missing k d lt);
      objects = rw (objects_are 0 choice) (never_seen [] (map (λ c. c.object) choice) is.twice).0;
    }

-- ---- objects that are left over

not_both : (b c : Bool) → (not b && not c) ≡ false → b ≡ false → c ≡ true
not_both b true h e = refl
not_both true false h e = absurd cc
not_both false false h e = absurd cc

price_of : (choice : List Pick) (prices : List ℤ) (j : ℕ) → is_left_over choice prices j ≡ false → list_any (nat_eq j) (picked choice) ≡ false → price_at prices j ≡ pos 0
price_of choice prices j h free = (Decides-int_eq (price_at prices j) (pos 0)).0 (not_both (list_any (nat_eq j) (picked choice)) (int_eq (price_at prices j) (pos 0)) h free)

none_priced : (choice : List Pick) (prices : List ℤ) → position (is_left_over choice prices) (range_with_len 0 (length prices)) ≡ None → IsNoPriceLeft prices (chosen 0 choice)
none_priced choice prices none j free =
    elim (cases_lt j (length prices)) [
      | inl lt ↦
          let at : get_or (range_with_len 0 (length prices)) j 0 ≡ j = omega (arith, get_or-range_with_len 0 (length prices) j 0 lt) in
          let fails : is_left_over choice prices j ≡ false = ap (is_left_over choice prices) (sym at) ∙ all_fail (is_left_over choice prices) (range_with_len 0 (length prices)) none j 0 (omega (arith, lt, length-range_with_len 0 (length prices))) in
          elim (cases_Bool (list_any (nat_eq j) (picked choice))) [
            | inl taken ↦ absurd (free (subst (λ (js : List ℕ). Contains js j) (sym (objects_are 0 choice)) (Contains-from_any (λ x y t. eqb-true x y t) j (picked choice) taken)))
            | inr left ↦ price_of choice prices j fails left
          ]
      | inr past ↦ get_or_past prices j (pos 0) past
    ]

at_itself : (n k : ℕ) → k < n → get_or (range_with_len 0 n) k 0 ≡ k
at_itself n k lt = omega (arith, get_or-range_with_len 0 n k 0 lt)

pub left_over_at : (choice : List Pick) (prices : List ℤ) (j : ℕ) → j < length prices → ((k : ℕ) → k < j → is_left_over choice prices k ≡ false) → is_left_over choice prices j ≡ true
    → Some j ≡ position (is_left_over choice prices) (range_with_len 0 (length prices))
left_over_at choice prices j lt before here =
    place_is (is_left_over choice prices) (range_with_len 0 (length prices)) j 0 (omega (arith, lt, length-range_with_len 0 (length prices)))
    (λ k below. ap (is_left_over choice prices) (at_itself (length prices) k (omega arith)) ∙ before k below) (ap (is_left_over choice prices) (at_itself (length prices) j lt) ∙ here)

pub no_left_over : (choice : List Pick) (prices : List ℤ) → ((k : ℕ) → k < length prices → is_left_over choice prices k ≡ false) → None ≡ position (is_left_over choice prices) (range_with_len 0 (length prices))
no_left_over choice prices none =
    no_place (is_left_over choice prices) (range_with_len 0 (length prices)) 0
    (λ k lt. let below : k < length prices = omega (arith, lt, length-range_with_len 0 (length prices)) in ap (is_left_over choice prices) (at_itself (length prices) k below) ∙ none k below)

-- ---- a whole claim

-- the faults of both parts, one after the other
pub behind_none : (xs ys : List (Option CertRefused)) → first_of xs ≡ None → first_of (xs ++ ys) ≡ first_of ys
behind_none [] ys h = refl
behind_none (None ∷ xs) ys h = behind_none xs ys h
behind_none (Some x ∷ xs) ys h = absurd cc

pub none_in_front : (xs ys : List (Option CertRefused)) → first_of (xs ++ ys) ≡ None → (first_of xs ≡ None) × (first_of ys ≡ None)
none_in_front [] ys h = (refl, h)
none_in_front (None ∷ xs) ys h = none_in_front xs ys h
none_in_front (Some x ∷ xs) ys h = absurd cc

-- a claim accepted by Ok has no fault
pub ok_is_none : {X : Type 0} (r : Result X CertRefused) (fault : Option CertRefused) → IsOk r → AnswersUnless NoMemory (λ x. x) r (IsVerdict fault) → fault ≡ None
ok_is_none (Ok x) fault ok h = h
ok_is_none (Err e) fault ok h = absurd cc

-- the verdict on the last part is that on the whole, where the parts in front have no fault
pub verdict_behind : {X : Type 0} (r : Result X CertRefused) (xs ys : List (Option CertRefused)) → first_of xs ≡ None → AnswersUnless NoMemory (λ x. x) r (IsVerdict (first_of ys)) → AnswersUnless NoMemory (λ x. x) r (IsVerdict (first_of (xs ++ ys)))
verdict_behind r xs ys none h = rw (behind_none xs ys none) h

-- the verdict on the second of two is that on both, where the first finds no fault
pub verdict_second : {X : Type 0} (r : Result X CertRefused) (x y : Option CertRefused) → first_of (x ∷ []) ≡ None → AnswersUnless NoMemory (λ x. x) r (IsVerdict (first_of (y ∷ []))) → AnswersUnless NoMemory (λ x. x) r (IsVerdict (first_of (x ∷ y ∷ [])))
verdict_second r x y none h = verdict_behind r (x ∷ []) (y ∷ []) none h

-- a claim without a fault is allowed
pub faultless_is_allowed : (p : Problem) (c : CertParts) → IsProblem p → IsInRange c → fault_of p c ≡ None → IsAllowed p c
faultless_is_allowed p (Optimal cost choice prices) is in_range none =
    let parts = none_in_front (choice_faults p cost choice prices) (slack_fault p choice prices ∷ left_over_fault choice prices ∷ []) none in
    let choice_is = is_faultless p cost choice prices parts.0 in
    let given = is_assigned p cost choice prices choice_is in
    let slack = none_map (position (λ c. not (is_slack_right (scale_of p) prices p.arcs c)) (chosen 0 choice)) (λ i. Slack i) (left_over_fault choice prices ∷ []) parts.1 in
    let over = none_map (position (is_left_over choice prices) (range_with_len 0 (length prices))) (λ j. LeftOver j) [] slack.1 in
    let right : All (IsSlackRight (pos 1) (scale_of p) prices p.arcs) (chosen 0 choice) =
    λ k d lt. right_at (scale_of p) prices p.arcs (get_or (chosen 0 choice) k d) (not_false _ (all_fail (λ c. not (is_slack_right (scale_of p) prices p.arcs c)) (chosen 0 choice) slack.0 k d lt)) in
    let left = none_priced choice prices over.0 in
    (slack_right_is_least p prices (chosen 0 choice) is.within choice_is.priced (not_negative prices in_range.1.fair) given right left, sym choice_is.cost_is)
faultless_is_allowed p (Infeasible persons objects) is in_range none =
    let passed = none_if (not (is_hall p persons objects)) NotHall [] none in
    hall_set_is p persons objects in_range (not_false (is_hall p persons objects) passed.0)
faultless_is_allowed p (Bracket reason lower cost choice prices) is in_range none =
    let parts = none_in_front (choice_faults p cost choice prices) (bound_fault p lower prices ∷ []) none in
    let choice_is = is_faultless p cost choice prices parts.0 in
    let bound = none_if (not (is_lower (scale_of p) (dual p prices) lower)) WrongBound [] parts.1 in
    let least = lower_passed p.persons (dual p prices) lower (not_false (is_lower (scale_of p) (dual p prices) lower) bound.0) in
    record {
      assignment = is_assigned p cost choice prices choice_is;
      cost_is = sym choice_is.cost_is;
      bound = λ other others. least.least (total_cost other) (dual_is_below p prices is.within choice_is.priced other others (not_negative prices in_range.choice.fair));
    }

-- the checker finds no fault in a Hall set
pub hall_sets_faultless : (p : Problem) (persons objects : List ℕ) → IsHallSet p persons objects → ((j : ℕ) → Contains objects j → j < p.objects) → fault_of p (Infeasible persons objects) ≡ None
hall_sets_faultless p persons objects set within = rw (hall_set_passes p persons objects set within) refl

pub from_flags : (test : Arc → Bool) (xs : List Arc) (slice flags : List Bool) (r : Option ℕ) → slice ≡ flags → flags ≡ map test xs → r ≡ position (is_flag true) slice → position test xs ≡ r
from_flags test xs slice flags r same are is = sym (place_in_map (λ (b : Bool). b) test xs) ∙ ap (position (λ (b : Bool). b)) (sym (same ∙ are)) ∙ sym is

pub from_flags_not : (test : Arc → Bool) (xs : List Arc) (slice flags : List Bool) (r : Option ℕ) → slice ≡ flags → flags ≡ map test xs → r ≡ position (is_flag false) slice → position (λ x. not (test x)) xs ≡ r
from_flags_not test xs slice flags r same are is = sym (place_in_map (λ (b : Bool). not b) test xs) ∙ ap (position (λ (b : Bool). not b)) (sym (same ∙ are)) ∙ sym is

pub length_chosen : (k : ℕ) (picks : List Pick) → length (chosen k picks) ≡ length picks
length_chosen k [] = refl
length_chosen k (p ∷ picks) = ap suc (length_chosen (k + 1) picks)

pub some_length : (test : Arc → Bool) (k : ℕ) (picks : List Pick) (slice flags : List Bool) → slice ≡ flags → flags ≡ map test (chosen k picks) → length slice ≡ length picks
some_length test k picks slice flags same are = ap length (same ∙ are) ∙ length-map (chosen k picks) test ∙ length_chosen k picks

below_from : (p : Problem) (k : ℕ) (choice : List Pick) → IsProblem p → All (λ c. is_missing p.arcs c ≡ false) (chosen k choice) → All (λ c. c.object < p.objects) choice
below_from p k [] is all = All-nil (λ (c : Pick). c.object < p.objects)
below_from p k (c ∷ choice) is all =
    let there = is_there p.arcs (arc_of k c) (All-head (λ (a : Arc). is_missing p.arcs a ≡ false) (arc_of k c) (chosen (k + 1) choice) all) in
    let within : IsWithin p.persons p.objects (arc_of k c) = subst (IsWithin p.persons p.objects) there.2 (is.within there.0 (arc_of k c) there.1) in
    All-cons (λ (d : Pick). d.object < p.objects) c choice within.object (below_from p (k + 1) choice is (All-tail (λ (a : Arc). is_missing p.arcs a ≡ false) (arc_of k c) (chosen (k + 1) choice) all))

-- a person who picks an arc of its row picks an object of the problem
pub objects_below : (p : Problem) (n : ℕ) (choice : List Pick) → IsProblem p → n ≡ p.objects → position (is_missing p.arcs) (chosen 0 choice) ≡ None → All (λ c. c.object < n) choice
objects_below p n choice is same none = rw same (below_from p 0 choice is (all_fail (is_missing p.arcs) (chosen 0 choice) none))

pub persons_below : (p : Problem) (n : ℕ) (arcs : List Arc) → IsProblem p → n ≡ p.persons → arcs ≡ p.arcs → All (λ a. a.person < n) arcs
persons_below p n arcs is same are = rw (same, are) (λ k d lt. (is.within k d lt).person)
