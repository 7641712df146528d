-- Picks and prices that bound what an assignment of a table costs: the checker sees it by these prices, scaled.
use Rattle.std.proofs.Common.{◌≡◌, ℕ, ◌+◌, ◌<◌, inl, inr, List, [], ◌∷◌, length, map, refl, sym, ap, subst, ◌∙◌, arith}
use Rattle.std.specs.Prelude.{ℤ, pos, ◌+ℤ◌, ◌-ℤ◌, ◌*ℤ◌, All}
use Rattle.std.proofs.lemmas.Int.{ints}
use Rattle.std.proofs.lemmas.List.Elements.{All-head, All-tail}
use Rattle.std.proofs.Math.IntN.{*ℤ-zero}
use Rattle.std.specs.List.{range_with_len}
use Rattle.auc_graph.specs.declared.arc.Arc.{Arc}
use Rattle.auc_graph.specs.Assignment.{total, total_cost}
use Rattle.auc_graph.specs.Dual.{AreFewPriced, IsLower, arc_value, dual, least_value}
use Rattle.auc_graph.specs.Problem.{IsProblem}
use Rattle.auc_graph.specs.Reading.{problem}
use Rattle.auc_graph.proofs.DualLaws.{assigned_are_few, square_are_few, sum_near_least, sum_of_least}
use Rattle.auc_graph.proofs.Scale.{scale-add, scale-cancel}
use Rattle.auc_claim.specs.declared.lists.Pick.{Pick}
use Rattle.auc_claim.specs.declared.cert.CertParts.{CertParts}
use Rattle.auc_claim.specs.declared.reason.Reason.{Reason}
use Rattle.auc_claim.specs.Claim.{arc_of, chosen, pick_of}
use Rattle.auc_claim.proofs.ClaimLaws.{faultless_is_allowed}
use Rattle.auc_claim.proofs.Converse.{back, bracket_faultless, bracket_in_range}
use Rattle.auc_call.specs.Memory.{AreAt}
use Rattle.auc_call.specs.Shown.{IsBracketAt}
use Rattle.auc_dense.specs.Naming.{ByObjects}
use Rattle.auc_dense.specs.Table.{IsTable, table_arcs}
use Rattle.auc_dense.specs.Tried.{ArePicks, ShowBracket, lower_at, pick_worth, scaled}
use Rattle.auc_dense.proofs.ShownLaws.{all_inside, are_at, are_objects, assigned, fair, known, left_free, persons_in_order, places_of, priced, scaled_worth, slack}
use Rattle.auc_dense.proofs.TriedLaws.{best_are_picks}

-- what the arcs of picks are worth at the scaled prices, together
values_total : (s k : ℕ) (prices : List ℤ) (picks : List Pick) → All (λ pick. pick.object < length prices) picks
    → total (map (arc_value s (map (scaled (pos s)) prices)) (chosen k picks)) ≡ pos s *ℤ total (map (pick_worth prices) picks)
values_total s k prices [] inside = sym (*ℤ-zero (pos s))
values_total s k prices (pick ∷ picks) inside =
    let here = scaled_worth s prices (arc_of k pick) (All-head (λ (p : Pick). p.object < length prices) pick picks inside) in
    let others = values_total s (k + 1) prices picks (All-tail (λ (p : Pick). p.object < length prices) pick picks inside) in
    omega (arith, ints, here, others, scale-add s (pick_worth prices pick) (total (map (pick_worth prices) picks)))

prices_total : (s : ℕ) (prices : List ℤ) → total (map (scaled (pos s)) prices) ≡ pos s *ℤ total prices
prices_total s [] = sym (*ℤ-zero (pos s))
prices_total s (price ∷ prices) = omega (arith, ints, prices_total s prices, scale-add s price (total prices))

scale-sub : (s : ℕ) (a b : ℤ) → pos s *ℤ (a -ℤ b) ≡ pos s *ℤ a -ℤ pos s *ℤ b
scale-sub s a b =
    let e : (a -ℤ b) +ℤ b ≡ a = omega (arith, ints) in
    omega (arith, ints, scale-add s (a -ℤ b) b, ap (λ (z : ℤ). pos s *ℤ z) e)

module _ (persons objects : ℕ) (costs : List ℤ) (stride : ℕ) (gap : ℤ) (picks : List Pick) (prices : List ℤ) (lower : ℤ) (is : IsProblem (problem persons objects (table_arcs objects costs stride gap persons))) (table : IsTable persons objects stride (length costs)) (show : ShowBracket persons objects costs stride gap picks prices lower) where
  bests_are_picks : ArePicks objects costs stride gap persons show.bests
  bests_are_picks = best_are_picks objects costs stride gap prices persons show.bests show.best

  bests_inside : All (λ pick. pick.object < length prices) show.bests
  bests_inside = subst (λ (m : ℕ). All (λ (pick : Pick). pick.object < m) show.bests) (sym show.priced) (all_inside persons objects costs stride gap show.bests table bests_are_picks)

  -- the best picks are worth the least of each person
  leasts_are : total (map (least_value (arc_value (persons + 1) (map (scaled (pos (persons + 1))) prices)) (table_arcs objects costs stride gap persons)) (range_with_len 0 persons)) ≡ pos (persons + 1) *ℤ total (map (pick_worth prices) show.bests)
  leasts_are =
      let there = known persons objects costs stride gap show.bests table bests_are_picks in
      let right = slack persons objects costs stride gap show.bests prices table show.priced show.best in
      let below = sum_of_least (arc_value (persons + 1) (map (scaled (pos (persons + 1))) prices)) (table_arcs objects costs stride gap persons) (chosen 0 show.bests) there in
      let above = sum_near_least (pos 0) (persons + 1) (map (scaled (pos (persons + 1))) prices) (table_arcs objects costs stride gap persons) (chosen 0 show.bests) there right in
      let in_order = ap (λ (ks : List ℕ). total (map (least_value (arc_value (persons + 1) (map (scaled (pos (persons + 1))) prices)) (table_arcs objects costs stride gap persons)) ks)) (persons_in_order persons objects costs stride gap show.bests table bests_are_picks) in
      omega (arith, ints, below, above, in_order, *ℤ-zero (pos (length (chosen 0 show.bests))), values_total (persons + 1) 0 prices show.bests bests_inside)

  dual_is : dual (problem persons objects (table_arcs objects costs stride gap persons)) (map (scaled (pos (persons + 1))) prices) ≡ pos (persons + 1) *ℤ lower_at prices show.bests
  dual_is = omega (arith, ints, leasts_are, prices_total (persons + 1) prices, scale-sub (persons + 1) (total (map (pick_worth prices) show.bests)) (total prices))

  pub bound_is : IsLower (persons + 1) (dual (problem persons objects (table_arcs objects costs stride gap persons)) (map (scaled (pos (persons + 1))) prices)) lower
  bound_is =
      let e : dual (problem persons objects (table_arcs objects costs stride gap persons)) (map (scaled (pos (persons + 1))) prices) ≡ pos (persons + 1) *ℤ lower = dual_is ∙ ap (λ (z : ℤ). pos (persons + 1) *ℤ z) (sym show.lower_is) in
      record { reaches = omega (arith, ints, e); least = λ k le. scale-cancel persons lower k (omega (arith, ints, e, le)) }

  few_priced : AreFewPriced (problem persons objects (table_arcs objects costs stride gap persons)) (map (scaled (pos (persons + 1))) prices)
  few_priced = elim show.few [
    | inl square ↦ square_are_few (problem persons objects (table_arcs objects costs stride gap persons)) (map (scaled (pos (persons + 1))) prices) square (priced persons objects picks prices show.priced show.fair)
    | inr free ↦ assigned_are_few (problem persons objects (table_arcs objects costs stride gap persons)) (map (scaled (pos (persons + 1))) prices) (chosen 0 picks) (assigned persons objects costs stride gap picks table show.own show.single) (left_free persons objects picks prices show.priced show.fair free)
  ]

  pub shown_bracket : (reason : Reason) (cost : ℤ) → cost ≡ total_cost (chosen 0 picks) → ByObjects (table_arcs objects costs stride gap persons) (map (λ c. c.object) picks) (λ places. IsBracketAt (problem persons objects (table_arcs objects costs stride gap persons)) places (map (scaled (pos (persons + 1))) prices) reason lower cost)
  shown_bracket reason cost cost_is =
      let many = priced persons objects picks prices show.priced show.fair in
      let given = assigned persons objects costs stride gap picks table show.own show.single in
      let in_range = bracket_in_range (problem persons objects (table_arcs objects costs stride gap persons)) (chosen 0 picks) (map (scaled (pos (persons + 1))) prices) lower reason is given many (fair persons objects picks prices show.priced show.fair) few_priced bound_is in
      let shown = bracket_faultless (problem persons objects (table_arcs objects costs stride gap persons)) (chosen 0 picks) given (map (scaled (pos (persons + 1))) prices) many (total_cost (chosen 0 picks)) refl reason lower bound_is in
      let allowed = faultless_is_allowed (problem persons objects (table_arcs objects costs stride gap persons)) (CertParts.Bracket reason lower (total_cost (chosen 0 picks)) (map pick_of (chosen 0 picks)) (map (scaled (pos (persons + 1))) prices)) is in_range shown in
      let same = back (problem persons objects (table_arcs objects costs stride gap persons)) (chosen 0 picks) given (map (scaled (pos (persons + 1))) prices) many (total_cost (chosen 0 picks)) refl in
      let at = are_at persons objects costs stride gap picks table show.own in
      subst (λ (z : ℤ). ByObjects (table_arcs objects costs stride gap persons) (map (λ c. c.object) picks) (λ places. IsBracketAt (problem persons objects (table_arcs objects costs stride gap persons)) places (map (scaled (pos (persons + 1))) prices) reason lower z)) (sym cost_is) (record {
        places = places_of (table_arcs objects costs stride gap persons) (chosen 0 picks) (known persons objects costs stride gap picks table show.own);
        objects_are = are_objects persons objects costs stride gap picks table show.own;
        holds = record {
          problem = is;
          picks = map pick_of (chosen 0 picks);
          at = subst (λ (choice : List Arc). AreAt (table_arcs objects costs stride gap persons) (places_of (table_arcs objects costs stride gap persons) (chosen 0 picks) (known persons objects costs stride gap picks table show.own)) choice) (sym same) at;
          bracket = allowed;
          in_range = in_range;
          shown = shown;
        };
      })
