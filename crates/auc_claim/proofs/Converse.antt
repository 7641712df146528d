-- The converse of what the checker's verdicts prove: an assignment with the right cost has no fault.
use Rattle.std.proofs.Common.{◌≡◌, ℕ, zero, suc, ◌+◌, ◌*◌, ◌^◌, ◌≤◌, ◌<◌, Bool, true, false, not, ◌&&◌, ◌||◌, eqb, eq-eqb, List, [], ◌∷◌, length, map, get_or, None, refl, sym, ap, subst, ◌∙◌, arith, inl, inr, All}
use Rattle.std.specs.Prelude.{ℤ, pos, neg_ℤ, ◌+ℤ◌, ◌≤ℤ◌, nat_eq, Contains, int_le, T}
use Rattle.std.specs.List.{position, list_any, IsDistinct, AllByRecursion, range_with_len}
use Rattle.std.specs.Ordering.{int_eq}
use Rattle.std.proofs.lemmas.Bool.{cases_eq, ne_eqb}
use Rattle.std.proofs.lemmas.Bool.Decides.{Decides-int_eq}
use Rattle.std.proofs.lemmas.List.{length-map}
use Rattle.std.proofs.lemmas.List.FromFn.{length-range_with_len}
use Rattle.std.proofs.lemmas.List.Elements.{All-head, All-tail, All-nil, All-cons}
use Rattle.std.proofs.lemmas.Int.{ints}
use Rattle.auc_graph.specs.declared.arc.Arc.{Arc}
use Rattle.auc_graph.specs.Problem.{Problem, IsProblem, IsWithin}
use Rattle.auc_graph.specs.Assignment.{person_of, object_of, total_cost, IsAssignment}
use Rattle.auc_claim.specs.declared.lists.Pick.{Pick}
use Rattle.auc_claim.specs.declared.cert.CertParts.TheVariants.{Optimal, Bracket}
use Rattle.auc_claim.specs.declared.reason.Reason.{Reason}
use Rattle.auc_graph.specs.Dual.{price_at, arc_value, scale_of, dual, IsLower, IsSlackRight, IsNoPriceLeft, AreFewPriced}
use Rattle.std.proofs.lemmas.Cmp.{nat_eq_equiv}
use Rattle.std.proofs.lemmas.Map.Views.{list_any-from_Contains}
use Rattle.auc_graph.proofs.LowerLaws.{lower_passes}
use Rattle.auc_graph.proofs.LowerRange.{lower_fits}
use Rattle.auc_graph.specs.Price.{IsPrice}
use Rattle.auc_claim.specs.InRange.{IsInRange}
use Rattle.auc_claim.specs.Spelled.{IsPick}
use Rattle.auc_graph.specs.declared.limits.TheConstants.{MOST_OBJECTS}
use Rattle.auc_claim.specs.Claim.{arc_of, pick_of, chosen, same_arc, is_missing, is_slack_beside, is_slack_right, repeated, is_sized, choice_faults, slack_fault, picked, is_left_over, left_over_fault, bound_fault, first_of, fault_of}
use Rattle.auc_claim.proofs.ClaimLaws.{no_place, objects_are, right_size, right_cost, behind_none}

-- ---- the picks of arcs, and back

pub chosen_back : (k n : ℕ) (choice : List Arc) → map person_of choice ≡ range_with_len k n → chosen k (map pick_of choice) ≡ choice
chosen_back k n [] e = refl
chosen_back k zero (a ∷ xs) e = absurd cc
chosen_back k (suc n) (a ∷ xs) e =
    let person : a.person ≡ k = cc in
    let others : map person_of xs ≡ range_with_len (k + 1) n = cc in
    ap (λ (i : ℕ). arc_of i (pick_of a) ∷ chosen (k + 1) (map pick_of xs)) (sym person) ∙ ap (λ (ys : List Arc). a ∷ ys) (chosen_back (k + 1) n xs others)

-- ---- each test passes

same_self : (a b : Arc) → a ≡ b → same_arc a b ≡ true
same_self a b e =
    let one : eqb a.person b.person ≡ true = eq-eqb a.person b.person (ap (λ (c : Arc). c.person) e) in
    let two : eqb a.object b.object ≡ true = eq-eqb a.object b.object (ap (λ (c : Arc). c.object) e) in
    let three : int_eq a.cost b.cost ≡ true = (Decides-int_eq a.cost b.cost).1 (ap (λ (c : Arc). c.cost) e) in
    rw (one, two, three) refl

and_false : (b : Bool) → (b && false) ≡ false
and_false true = refl
and_false false = refl

present : (arcs : List Arc) (c : Arc) (k : ℕ) → k < length arcs → get_or arcs k c ≡ c → is_missing arcs c ≡ false
present [] c k lt e = absurd (omega arith)
present (a ∷ arcs) c zero lt e = let t = same_self c a (sym e) in rw t refl
present (a ∷ arcs) c (suc k) lt e = let rest = present arcs c k (omega (arith, lt)) e in rw rest (and_false (not (same_arc c a)))

none_missing : (arcs choice : List Arc) (d : Arc) → All (Contains arcs) choice → position (is_missing arcs) choice ≡ None
none_missing arcs choice d known = sym (no_place (is_missing arcs) choice d (λ k lt. let there = known k d lt in present arcs (get_or choice k d) there.0 there.1 there.2))

either_false : (x y : Bool) → x ≡ false → y ≡ false → (x || y) ≡ false
either_false x y h g = rw (h, g) refl

turned : (i j : ℕ) → eqb i j ≡ false → eqb j i ≡ false
turned i j h = elim (cases_eq j i) [ inl e ↦ absurd (let t = eq-eqb i j (sym e) in let b = sym t ∙ h in cc) | inr ne ↦ ne_eqb j i ne ]

fresh_later : (j : ℕ) (earlier js : List ℕ) → AllByRecursion (λ i. eqb j i ≡ false) js → AllByRecursion (λ i. list_any (nat_eq i) earlier ≡ false) js → AllByRecursion (λ i. list_any (nat_eq i) (j ∷ earlier) ≡ false) js
fresh_later j earlier [] apart fresh = tt
fresh_later j earlier (i ∷ js) apart fresh = (either_false (eqb i j) (list_any (nat_eq i) earlier) (turned j i apart.0) fresh.0, fresh_later j earlier js apart.1 fresh.1)

none_repeated : (earlier js : List ℕ) → IsDistinct eqb js → AllByRecursion (λ j. list_any (nat_eq j) earlier ≡ false) js → repeated earlier js ≡ None
unfolding IsDistinct
none_repeated earlier [] d fresh = refl
none_repeated earlier (j ∷ js) d fresh = let here = fresh.0 in rw here (none_repeated (j ∷ earlier) js d.1 (fresh_later j earlier js d.0 fresh.1))

all_fresh : (js : List ℕ) → AllByRecursion (λ j. list_any (nat_eq j) [] ≡ false) js
all_fresh [] = tt
all_fresh (j ∷ js) = (refl, all_fresh js)

test_true : (b : Bool) → T b → b ≡ true
test_true true t = refl
test_true false t = absurd t

slack_beside_right : (s : ℕ) (prices : List ℤ) (c a : Arc) → (a.person ≡ c.person → arc_value s prices c ≤ℤ (arc_value s prices a +ℤ pos 1)) → is_slack_beside s prices c a ≡ true
slack_beside_right s prices c a h =
    elim (cases_eq c.person a.person) [
      | inl e ↦ (let le = h (sym e) in let t : int_le (arc_value s prices c) (arc_value s prices a +ℤ pos 1) ≡ true = test_true _ le.le in let same : eqb c.person a.person ≡ true = eq-eqb c.person a.person e in rw (same, t) refl)
      | inr ne ↦ (let other : eqb c.person a.person ≡ false = ne_eqb c.person a.person ne in rw other refl)
    ]

slack_passes : (s : ℕ) (prices : List ℤ) (arcs : List Arc) (c : Arc) → IsSlackRight (pos 1) s prices arcs c → is_slack_right s prices arcs c ≡ true
slack_passes s prices [] c h = refl
slack_passes s prices (a ∷ arcs) c h =
    let here = slack_beside_right s prices c a (All-head (λ (b : Arc). b.person ≡ c.person → arc_value s prices c ≤ℤ (arc_value s prices b +ℤ pos 1)) a arcs h) in
    rw here (slack_passes s prices arcs c (All-tail (λ (b : Arc). b.person ≡ c.person → arc_value s prices c ≤ℤ (arc_value s prices b +ℤ pos 1)) a arcs h))

none_worse : (s : ℕ) (prices : List ℤ) (arcs choice : List Arc) (d : Arc) → All (IsSlackRight (pos 1) s prices arcs) choice → position (λ c. not (is_slack_right s prices arcs c)) choice ≡ None
none_worse s prices arcs choice d slack = sym (no_place (λ c. not (is_slack_right s prices arcs c)) choice d (λ k lt. let t = slack_passes s prices arcs (get_or choice k d) (slack k d lt) in rw t refl))

not_left : (b c : Bool) → (b ≡ false → c ≡ true) → (not b && not c) ≡ false
not_left true c h = refl
not_left false c h = let t = h refl in rw t refl

none_left_over : (choice : List Pick) (prices : List ℤ) → ((j : ℕ) → ¬ Contains (picked choice) j → price_at prices j ≡ pos 0) → position (is_left_over choice prices) (range_with_len 0 (length prices)) ≡ None
none_left_over choice prices left =
    sym (no_place (is_left_over choice prices) (range_with_len 0 (length prices)) 0 (λ k lt.
    not_left (list_any (nat_eq (get_or (range_with_len 0 (length prices)) k 0)) (picked choice)) (int_eq (price_at prices (get_or (range_with_len 0 (length prices)) k 0)) (pos 0)) (λ free.
    (Decides-int_eq (price_at prices (get_or (range_with_len 0 (length prices)) k 0)) (pos 0)).1 (left (get_or (range_with_len 0 (length prices)) k 0) (λ there.
    absurd (let found = list_any-from_Contains nat_eq_equiv (get_or (range_with_len 0 (length prices)) k 0) (picked choice) there in let b = sym found ∙ free in cc))))))

-- ---- the whole

module _ (p : Problem) (choice : List Arc) (given : IsAssignment p choice) (prices : List ℤ) (priced : length prices ≡ p.objects) (cost : ℤ) (right : cost ≡ total_cost choice) where
  abbrev picks : List Pick
  picks = map pick_of choice

  a_zero : Arc
  a_zero = record { person = 0; object = 0; cost = pos 0 }

  pub back : chosen 0 (map pick_of choice) ≡ choice
  back = chosen_back 0 p.persons choice given.persons

  pub many : length (map pick_of choice) ≡ p.persons
  many = length-map choice pick_of ∙ sym (length-map choice person_of) ∙ ap length given.persons ∙ length-range_with_len 0 p.persons

  same_objects : map (λ c. c.object) (map pick_of choice) ≡ map object_of choice
  same_objects = sym (objects_are 0 (map pick_of choice)) ∙ ap (map object_of) back

  pub choice_faultless : first_of (choice_faults p cost (map pick_of choice) prices) ≡ None
  choice_faultless =
      let size : not (is_sized p (map pick_of choice) prices) ≡ false = right_size p (map pick_of choice) prices many priced in
      let there : position (is_missing p.arcs) (chosen 0 (map pick_of choice)) ≡ None = ap (position (is_missing p.arcs)) back ∙ none_missing p.arcs choice a_zero given.arcs in
      let once : repeated [] (map (λ c. c.object) (map pick_of choice)) ≡ None = ap (repeated []) same_objects ∙ none_repeated [] (map object_of choice) given.objects (all_fresh (map object_of choice)) in
      let sum : not (int_eq cost (total_cost (chosen 0 (map pick_of choice)))) ≡ false = right_cost cost (total_cost (chosen 0 (map pick_of choice))) (right ∙ ap total_cost (sym back)) in
      rw (size, there, once, sum) refl

  -- an assignment that satisfies epsilon-complementary slackness at eps 1 and leaves no unassigned object with a price
  pub slack_right_faultless : All (IsSlackRight (pos 1) (scale_of p) prices p.arcs) choice → IsNoPriceLeft prices choice → fault_of p (Optimal cost (map pick_of choice) prices) ≡ None
  slack_right_faultless slack left =
      let none : position (λ c. not (is_slack_right (scale_of p) prices p.arcs c)) (chosen 0 (map pick_of choice)) ≡ None = ap (position (λ c. not (is_slack_right (scale_of p) prices p.arcs c))) back ∙ none_worse (scale_of p) prices p.arcs choice a_zero slack in
      let over : position (is_left_over (map pick_of choice) prices) (range_with_len 0 (length prices)) ≡ None = none_left_over (map pick_of choice) prices (λ j free. left j (subst (λ (js : List ℕ). ¬ Contains js j) same_objects free)) in
      behind_none (choice_faults p cost (map pick_of choice) prices) (slack_fault p (map pick_of choice) prices ∷ left_over_fault (map pick_of choice) prices ∷ []) choice_faultless ∙ rw (none, over) refl

  -- an assignment, with the dual bound of some prices
  pub bracket_faultless : (reason : Reason) (lower : ℤ) → IsLower (scale_of p) (dual p prices) lower → fault_of p (Bracket reason lower cost (map pick_of choice) prices) ≡ None
  bracket_faultless reason lower is =
      let passes = lower_passes p.persons (dual p prices) lower is in
      behind_none (choice_faults p cost (map pick_of choice) prices) (bound_fault p lower prices ∷ []) choice_faultless ∙ rw passes refl

-- ---- and is in range

picks_are : (most m n : ℕ) (arcs choice : List Arc) → n ≤ most → All (IsWithin m n) arcs → All (Contains arcs) choice → All (IsPick most) (map pick_of choice)
picks_are most m n arcs [] few within known = All-nil (IsPick most)
picks_are most m n arcs (a ∷ choice) few within known =
    let there = All-head (Contains arcs) a choice known in
    let w : IsWithin m n a = subst (IsWithin m n) there.2 (within there.0 a there.1) in
    let object = w.object in
    let low = w.low in
    let high = w.high in
    All-cons (IsPick most) (pick_of a) (map pick_of choice) (record { object = omega (arith, object, few); low = omega (arith, ints, low); high = omega (arith, ints, high) }) (picks_are most m n arcs choice few within (All-tail (Contains arcs) a choice known))

costs_between : (m n : ℕ) (arcs choice : List Arc) → All (IsWithin m n) arcs → All (Contains arcs) choice → (neg_ℤ (pos (length choice * 10 ^ 9)) ≤ℤ total_cost choice) × (total_cost choice ≤ℤ pos (length choice * 10 ^ 9))
costs_between m n arcs [] within known = (omega (arith, ints), omega (arith, ints))
costs_between m n arcs (a ∷ choice) within known =
    let there = All-head (Contains arcs) a choice known in
    let w : IsWithin m n a = subst (IsWithin m n) there.2 (within there.0 a there.1) in
    let rest = costs_between m n arcs choice within (All-tail (Contains arcs) a choice known) in
    let low = w.low in
    let high = w.high in
    (omega (arith, ints, rest.0, low), omega (arith, ints, rest.1, high))

pub assignment_in_range : (p : Problem) (choice : List Arc) (prices : List ℤ) → IsProblem p → IsAssignment p choice → length prices ≡ p.objects → All IsPrice prices → IsInRange (Optimal (total_cost choice) (map pick_of choice) prices)
assignment_in_range p choice prices is given len fair =
    let size : length (map pick_of choice) ≡ p.persons = many p choice given prices len (total_cost choice) refl in
    let arcs : length choice ≡ p.persons = sym (length-map choice pick_of) ∙ size in
    let both = costs_between p.persons p.objects p.arcs choice is.within given.arcs in
    let some = is.some in
    let most = is.most in
    let enough = is.enough in
    let most_objects = is.most_objects in (
      omega (arith, ints, both.0, both.1, arcs, most),
      record {
        some = omega (arith, size, some);
        most = omega (arith, size, most);
        enough = omega (arith, len, enough, size);
        few = omega (arith, len, most_objects);
        picks = picks_are MOST_OBJECTS p.persons p.objects p.arcs choice most_objects is.within given.arcs;
        fair = fair;
      },
    )

pub bracket_in_range : (p : Problem) (choice : List Arc) (prices : List ℤ) (lower : ℤ) (reason : Reason) → IsProblem p → IsAssignment p choice → length prices ≡ p.objects → All IsPrice prices → AreFewPriced p prices → IsLower (scale_of p) (dual p prices) lower
    → IsInRange (Bracket reason lower (total_cost choice) (map pick_of choice) prices)
bracket_in_range p choice prices lower reason is given len fair priced least =
    let in_range = assignment_in_range p choice prices is given len fair in
    record { lower_fits = lower_fits p prices choice lower is.most is.within len fair priced given least; cost_fits = in_range.0; choice = in_range.1 }
