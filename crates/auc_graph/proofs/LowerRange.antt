-- The range of the least cost that a dual bound allows.
use Rattle.std.proofs.Common.{◌≡◌, ℕ, ◌^◌, ◌≤◌, List, [], ◌∷◌, length, map, get_or, refl, ap, subst, arith}
use Rattle.std.specs.Prelude.{ℤ, pos, neg_ℤ, ◌+ℤ◌, ◌-ℤ◌, ◌*ℤ◌, ◌≤ℤ◌, All, Contains, FitsSigned}
use Rattle.std.specs.Int.{w64}
use Rattle.std.proofs.Math.IntN.{zero-*ℤ}
use Rattle.std.proofs.lemmas.Int.{ints}
use Rattle.std.proofs.lemmas.List.Elements.{All-head, All-tail}
use Rattle.auc_graph.specs.declared.arc.Arc.{Arc}
use Rattle.auc_graph.specs.declared.limits.TheConstants.{MOST_PERSONS, MOST_COST}
use Rattle.auc_graph.specs.Problem.{Problem, IsWithin}
use Rattle.auc_graph.specs.Assignment.{total, person_of, total_cost, IsAssignment}
use Rattle.auc_graph.specs.Price.{IsPrice}
use Rattle.auc_graph.specs.Dual.{scale_of, arc_value, least_value, dual, IsLower, AreNotNegative, AreFewPriced}
use Rattle.auc_graph.proofs.Scale.{once_more, scale-add, scale-cancel, scale-mono, scale-swap}
use Rattle.auc_graph.proofs.PriceLaws.{not_negative, few_below}
use Rattle.auc_graph.proofs.LeastLaws.{least_above}
use Rattle.auc_graph.proofs.DualLaws.{as_many, dual_is_below}

sums_above : (m : ℤ) (value : Arc → ℤ) (arcs ys : List Arc) → All (λ a. m ≤ℤ value a) arcs → All (Contains arcs) ys → (pos (length ys) *ℤ m) ≤ℤ total (map (least_value value arcs) (map person_of ys))
sums_above m value arcs [] all known = omega (arith, ints, zero-*ℤ m)
sums_above m value arcs (y ∷ ys) all known =
    let there = All-head (Contains arcs) y ys known in
    let here = least_above value y.person m arcs y there.0 there.1 there.2 refl (λ k d lt his. all k d lt) in
    omega (arith, ints, here, once_more (length ys) m, sums_above m value arcs ys all (All-tail (Contains arcs) y ys known))

costs_below : (m : ℤ) (arcs ys : List Arc) → All (λ (a : Arc). a.cost ≤ℤ m) arcs → All (Contains arcs) ys → total_cost ys ≤ℤ (pos (length ys) *ℤ m)
costs_below m arcs [] all known = omega (arith, ints, zero-*ℤ m)
costs_below m arcs (y ∷ ys) all known =
    let there = All-head (Contains arcs) y ys known in
    let here : y.cost ≤ℤ m = subst (λ (a : Arc). a.cost ≤ℤ m) there.2 (all there.0 y there.1) in
    omega (arith, ints, here, once_more (length ys) m, costs_below m arcs ys all (All-tail (Contains arcs) y ys known))

module _ (p : Problem) (prices : List ℤ) (choice : List Arc) (lower : ℤ) (within : All (IsWithin p.persons p.objects) p.arcs) (len : length prices ≡ p.objects) (above : AreNotNegative prices) (given : IsAssignment p choice) (is : IsLower (scale_of p) (dual p prices) lower) where
  many : (m : ℤ) → pos (length choice) *ℤ m ≡ pos p.persons *ℤ m
  many m = ap (λ (n : ℕ). pos n *ℤ m) (as_many p choice given)

  -- it is no more than the cost of any assignment
  pub lower_high : lower ≤ℤ (pos p.persons *ℤ MOST_COST)
  lower_high =
      let least = is.least (total_cost choice) (dual_is_below p prices within len choice given above) in
      let costs = costs_below MOST_COST p.arcs choice (λ k d lt. (within k d lt).high) given.arcs in
      omega (arith, ints, least, costs, many MOST_COST)

  -- at prices that aren't negative no arc's value is below its scaled cost
  value_above : All (λ (a : Arc). (pos (scale_of p) *ℤ neg_ℤ MOST_COST) ≤ℤ arc_value (scale_of p) prices a) p.arcs
  value_above k d lt =
      let arc = get_or p.arcs k d in
      omega (arith, ints, scale-mono (scale_of p) (neg_ℤ MOST_COST) arc.cost (within k d lt).low, above arc.object)

  pub lower_low : (top : ℤ) → total prices ≤ℤ (pos (scale_of p) *ℤ top) → ((pos p.persons *ℤ neg_ℤ MOST_COST) -ℤ top) ≤ℤ lower
  lower_low top few =
      let sum = sums_above (pos (scale_of p) *ℤ neg_ℤ MOST_COST) (arc_value (scale_of p) prices) p.arcs choice value_above given.arcs in
      let persons = ap (λ (js : List ℕ). total (map (least_value (arc_value (scale_of p) prices) p.arcs) js)) given.persons in
      let least : ℤ = pos p.persons *ℤ neg_ℤ MOST_COST in
      let e : (least -ℤ top) +ℤ top ≡ least = omega (arith, ints) in
      let parts = scale-add (scale_of p) (least -ℤ top) top in
      let both = ap (λ (z : ℤ). pos (scale_of p) *ℤ z) e in
      let turned = scale-swap (scale_of p) p.persons (neg_ℤ MOST_COST) in
      let same = many (pos (scale_of p) *ℤ neg_ℤ MOST_COST) in
      scale-cancel p.persons (least -ℤ top) lower (omega (arith, ints, sum, persons, same, turned, few, both, parts, is.reaches))

-- if at most as many objects as persons have a price, the bound fits 64 bits
pub lower_fits : (p : Problem) (prices : List ℤ) (choice : List Arc) (lower : ℤ) → p.persons ≤ MOST_PERSONS → All (IsWithin p.persons p.objects) p.arcs → length prices ≡ p.objects → All IsPrice prices → AreFewPriced p prices → IsAssignment p choice
    → IsLower (scale_of p) (dual p prices) lower → FitsSigned w64 lower
lower_fits p prices choice lower most within len fair priced given is =
    let above = not_negative prices fair in
    let few : total prices ≤ℤ (pos (scale_of p) *ℤ pos (2 ^ 61)) = omega (arith, ints, few_below prices priced.priced fair priced.others, priced.few) in
    let low = lower_low p prices choice lower within len above given is (pos (2 ^ 61)) few in
    let high = lower_high p prices choice lower within len above given is in
    omega (arith, ints, low, high, most)
