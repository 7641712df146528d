-- Some amounts, computed by the definitions.
use Rattle.std.proofs.Common.{◌≡◌, ◌≢◌, ℕ, List, [], ◌∷◌, refl, inl, inr, arith, rules, pos}
use Rattle.std.specs.Prelude.{ℤ, ◌≤ℤ◌}
use Rattle.std.proofs.lemmas.List.Elements.{All-from_recursion}
use Rattle.auc_graph.specs.declared.rows.RowArc.{RowArc}
use Rattle.auc_graph.specs.Bid.{value, IsAmount}
use Rattle.auc_persons.specs.Scan.{copy_in}
use Rattle.auc_letters.specs.Persons.{persons_of}

abbrev arc_to : ℕ → ℕ → ℤ → RowArc
arc_to place object cost = record { cost = cost; object = object; arc = place }

-- a person with costs 1 and 3, at copies 4 and 0, of two persons: the second object is better by 7 - 9
abbrev second_row : List RowArc
second_row = arc_to 2 0 (pos 1) ∷ arc_to 3 1 (pos 3) ∷ []

first_value : value (pos 3) (copy_in (pos 4 ∷ pos 0 ∷ [])) (arc_to 2 0 (pos 1)) ≡ pos 7
first_value = refl

second_value : value (pos 3) (copy_in (pos 4 ∷ pos 0 ∷ [])) (arc_to 3 1 (pos 3)) ≡ pos 9
second_value = refl

bids_seven : IsAmount (pos 3) (pos 2) (pos 1) (copy_in (pos 4 ∷ pos 0 ∷ [])) second_row (arc_to 2 0 (pos 1)) (pos 7)
bids_seven = inl (
  arc_to 3 1 (pos 3),
  record {
    listed = (1, omega arith, refl);
    other = (λ e. absurd (omega arith));
    least = All-from_recursion (λ b. b.object ≢ 0 → pos 9 ≤ℤ value (pos 3) (copy_in (pos 4 ∷ pos 0 ∷ [])) b) second_row (search rules);
  },
  refl,
)

-- all arcs to one object: the scaled spread of all costs, 3 times 4, and eps
one_object : IsAmount (pos 3) (pos 4) (pos 1) (copy_in (pos 0 ∷ [])) (arc_to 0 0 (pos 4) ∷ arc_to 1 0 (pos 2) ∷ []) (arc_to 1 0 (pos 2)) (pos 13)
one_object = inr (All-from_recursion (λ b. b.object ≡ 0) (arc_to 0 0 (pos 4) ∷ arc_to 1 0 (pos 2) ∷ []) (search rules), refl)

own_of_two : persons_of 1 2 5 ≡ 1 ∷ 3 ∷ []
own_of_two = refl
