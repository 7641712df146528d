-- Weak duality: no assignment costs less than the dual bound, and one that satisfies epsilon-complementary slackness
-- costs little more.
use Rattle.std.proofs.Common.{◌≡◌, ℕ, ◌<◌, List, [], ◌∷◌, length, map, get_or, refl, sym, ap, subst, ◌∙◌, arith, inl, inr}
use Rattle.std.specs.Prelude.{ℤ, pos, ◌+ℤ◌, ◌-ℤ◌, ◌*ℤ◌, ◌≤ℤ◌, All, Contains}
use Rattle.std.specs.List.{AllByRecursion, range_with_len}
use Rattle.std.proofs.Math.IntN.{*ℤ-zero, zero-*ℤ}
use Rattle.std.proofs.lemmas.Bool.{cases_lt, eqb-true}
use Rattle.std.proofs.lemmas.Int.{ints}
use Rattle.std.proofs.lemmas.List.Elements.{All-head, All-tail}
use Rattle.std.proofs.lemmas.List.FromFn.{length-range_with_len, get_or-range_with_len}
use Rattle.std.proofs.lemmas.List.{length-map, get_or-map, get_or_past}
use Rattle.std.proofs.lemmas.Cmp.{nat_eq_equiv}
use Rattle.std.proofs.lemmas.Map.Views.{list_any-from_Contains, Contains-from_any}
use Rattle.auc_graph.specs.declared.arc.Arc.{Arc}
use Rattle.auc_graph.specs.Problem.{Problem, IsWithin}
use Rattle.auc_graph.specs.Assignment.{total, person_of, object_of, total_cost, IsAssignment, IsLeast}
use Rattle.auc_graph.specs.Dual.{scale_of, arc_value, IsSlackRight, least_value, dual, AreNotNegative, AreFewPriced, IsNoPriceLeft, EachHasArc}
use Rattle.auc_graph.proofs.LeastLaws.{least_below, least_above}
use Rattle.auc_graph.proofs.Scale.{once_more, scale-add, scale-cancel, scale-one}
use Rattle.auc_graph.proofs.PriceSums.{prices_at, some_prices, left_without_price, covers}

pub sum_of_least : (value : Arc → ℤ) (arcs ys : List Arc) → All (Contains arcs) ys → total (map (least_value value arcs) (map person_of ys)) ≤ℤ total (map value ys)
sum_of_least value arcs [] known = omega (arith, ints)
sum_of_least value arcs (y ∷ ys) known =
    let there = All-head (Contains arcs) y ys known in
    let here = least_below value y.person arcs y there.0 there.1 there.2 refl in
    omega (arith, ints, here, sum_of_least value arcs ys (All-tail (Contains arcs) y ys known))

pub sum_near_least : (eps : ℤ) (s : ℕ) (prices : List ℤ) (arcs xs : List Arc) → All (Contains arcs) xs → All (IsSlackRight eps s prices arcs) xs
    → total (map (arc_value s prices) xs) ≤ℤ (total (map (least_value (arc_value s prices) arcs) (map person_of xs)) +ℤ (pos (length xs) *ℤ eps))
sum_near_least eps s prices arcs [] known slack = omega (arith, ints, zero-*ℤ eps)
sum_near_least eps s prices arcs (x ∷ xs) known slack =
    let there = All-head (Contains arcs) x xs known in
    let right = All-head (IsSlackRight eps s prices arcs) x xs slack in
    let above : (arc_value s prices x -ℤ eps) ≤ℤ least_value (arc_value s prices) arcs x.person =
    least_above (arc_value s prices) x.person (arc_value s prices x -ℤ eps) arcs x there.0 there.1 there.2 refl (λ k d lt his. let le = right k d lt his in omega (arith, ints, le)) in
    omega (arith, ints, above, once_more (length xs) eps, sum_near_least eps s prices arcs xs (All-tail (Contains arcs) x xs known) (All-tail (IsSlackRight eps s prices arcs) x xs slack))

pub split_value : (s : ℕ) (prices : List ℤ) (xs : List Arc) → total (map (arc_value s prices) xs) ≡ pos s *ℤ total_cost xs +ℤ total (prices_at prices (map object_of xs))
split_value s prices [] = omega (arith, ints, *ℤ-zero (pos s))
split_value s prices (a ∷ xs) = omega (arith, ints, split_value s prices xs, scale-add s a.cost (total_cost xs))

pub as_many : (p : Problem) (choice : List Arc) → IsAssignment p choice → length choice ≡ p.persons
as_many p choice given = sym (length-map choice person_of) ∙ ap length given.persons ∙ length-range_with_len 0 p.persons

objects_below : (m n : ℕ) (arcs xs : List Arc) → All (IsWithin m n) arcs → All (Contains arcs) xs → AllByRecursion (λ j. j < n) (map object_of xs)
objects_below m n arcs [] within known = tt
objects_below m n arcs (a ∷ xs) within known =
    let in_arcs = All-head (Contains arcs) a xs known in
    let here : IsWithin m n a = subst (IsWithin m n) in_arcs.2 (within in_arcs.0 a in_arcs.1) in
    (here.object, objects_below m n arcs xs within (All-tail (Contains arcs) a xs known))

module _ (p : Problem) (prices : List ℤ) (within : All (IsWithin p.persons p.objects) p.arcs) (len : length prices ≡ p.objects) where
  leasts : ℤ
  leasts = total (map (least_value (arc_value (scale_of p) prices) p.arcs) (range_with_len 0 p.persons))

  pub objects_in : (choice : List Arc) → IsAssignment p choice → AllByRecursion (λ j. j < length prices) (map object_of choice)
  objects_in choice given = rw len (objects_below p.persons p.objects p.arcs choice within given.arcs)

  persons_in : (choice : List Arc) → IsAssignment p choice → total (map (least_value (arc_value (scale_of p) prices) p.arcs) (map person_of choice)) ≡ total (map (least_value (arc_value (scale_of p) prices) p.arcs) (range_with_len 0 p.persons))
  persons_in choice given = ap (λ (js : List ℕ). total (map (least_value (arc_value (scale_of p) prices) p.arcs) js)) given.persons

  -- weak duality
  pub dual_is_below : (choice : List Arc) → IsAssignment p choice → AreNotNegative prices → dual p prices ≤ℤ (pos (scale_of p) *ℤ total_cost choice)
  dual_is_below choice given above =
      let sum = sum_of_least (arc_value (scale_of p) prices) p.arcs choice given.arcs in
      let some = some_prices prices (map object_of choice) given.objects (objects_in choice given) above in
      omega (arith, ints, sum, persons_in choice given, split_value (scale_of p) prices choice, some)

  -- if a choice satisfies epsilon-complementary slackness and unassigned objects have price 0, its cost is near the
  -- bound
  pub slack_right_is_near : (eps : ℤ) (choice : List Arc) → IsAssignment p choice → All (IsSlackRight eps (scale_of p) prices p.arcs) choice → total (prices_at prices (map object_of choice)) ≡ total prices
      → (pos (scale_of p) *ℤ total_cost choice) ≤ℤ (dual p prices +ℤ (pos p.persons *ℤ eps))
  slack_right_is_near eps choice given slack all =
      let sum = sum_near_least eps (scale_of p) prices p.arcs choice given.arcs slack in
      let same = ap (λ (n : ℕ). pos n *ℤ eps) (as_many p choice given) in
      omega (arith, ints, sum, persons_in choice given, split_value (scale_of p) prices choice, all, same)

-- a choice that satisfies epsilon-complementary slackness at eps 1 costs least, if each unassigned object has price 0
pub slack_right_is_least : (p : Problem) (prices : List ℤ) (choice : List Arc) → All (IsWithin p.persons p.objects) p.arcs → length prices ≡ p.objects → AreNotNegative prices → IsAssignment p choice → All (IsSlackRight (pos 1) (scale_of p) prices p.arcs) choice
    → IsNoPriceLeft prices choice → IsLeast p choice
slack_right_is_least p prices choice within len above given slack left =
    record {
      assignment = given;
      least = λ other others.
          let all = left_without_price prices (map object_of choice) given.objects (objects_in p prices within len choice given)
          (λ j free. left j (λ there. absurd (let found = list_any-from_Contains nat_eq_equiv j (map object_of choice) there in let b = sym found ∙ free in cc))) in
          let near = slack_right_is_near p prices within len (pos 1) choice given slack all in
          let below = dual_is_below p prices within len other others above in
          scale-cancel p.persons (total_cost choice) (total_cost other) (omega (arith, ints, near, below, scale-one p.persons));
    }

-- with as many objects as persons, every object is assigned
pub none_left_over : (p : Problem) (prices : List ℤ) (choice : List Arc) → All (IsWithin p.persons p.objects) p.arcs → p.objects ≡ p.persons → length prices ≡ p.objects → IsAssignment p choice → IsNoPriceLeft prices choice
none_left_over p prices choice within square len given j free =
    elim (cases_lt j (length prices)) [
      | inl lt ↦
          let many : length (map object_of choice) ≡ length prices = length-map choice object_of ∙ as_many p choice given ∙ sym square ∙ sym len in
          let taken = covers (length prices) (map object_of choice) j given.objects (objects_in p prices within len choice given) many lt in
          absurd (free (Contains-from_any (λ x y t. eqb-true x y t) j (map object_of choice) taken))
      | inr past ↦ get_or_past prices j (pos 0) past
    ]

-- ---- how many objects have a price

pub square_are_few : (p : Problem) (prices : List ℤ) → p.objects ≡ p.persons → length prices ≡ p.objects → AreFewPriced p prices
square_are_few p prices square len = record {
  priced = range_with_len 0 p.persons;
  few = omega (arith, length-range_with_len 0 p.persons);
  others = λ j other.
      elim (cases_lt j (length prices)) [
        | inl lt ↦
            let below : j < p.persons = omega (arith, lt, len, square) in
            absurd (other (j, omega (arith, below, length-range_with_len 0 p.persons), omega (arith, get_or-range_with_len 0 p.persons j j below)))
        | inr past ↦ get_or_past prices j (pos 0) past
      ];
}

pub assigned_are_few : (p : Problem) (prices : List ℤ) (choice : List Arc) → IsAssignment p choice → IsNoPriceLeft prices choice → AreFewPriced p prices
assigned_are_few p prices choice given left = record { priced = map object_of choice; few = omega (arith, length-map choice object_of, as_many p choice given); others = left }

no_arc : Arc
no_arc = record { cost = pos 0; person = 0; object = 0 }

pub each_has_arc : (p : Problem) (choice : List Arc) → IsAssignment p choice → EachHasArc p
each_has_arc p choice given person lt =
    let there : person < length choice = omega (arith, lt, as_many p choice given) in
    let his = get_or-map person_of choice person no_arc 0 there in
    let of = ap (λ (js : List ℕ). get_or js person 0) given.persons in
    let is : (get_or choice person no_arc).person ≡ person = omega (arith, his, of, get_or-range_with_len 0 p.persons person 0 lt) in
    (get_or choice person no_arc, given.arcs person no_arc there, is)
