-- The rows of some small problems, computed by the definitions.
use Rattle.std.proofs.Common.{◌≡◌, ℕ, List, [], ◌∷◌, refl, inl, inr, arith, rules}
use Rattle.std.proofs.lemmas.List.Elements.{All-from_recursion}
use Rattle.std.specs.Prelude.{pos, neg_ℤ, ◌≤ℤ◌}
use Rattle.auc_graph.specs.declared.arc.Arc.{Arc}
use Rattle.auc_graph.specs.Reading.{arc_of}
use Rattle.auc_graph.specs.Row.{row, IsSpread}

-- persons, by their numbers
abbrev ada : ℕ
ada = 0

abbrev ben : ℕ
ben = 1

abbrev nobody : ℕ
nobody = 5

abbrev two_persons : List Arc
two_persons = arc_of 0 0 (pos 1) ∷ arc_of 0 1 (pos 2) ∷ arc_of 1 0 (pos 1) ∷ arc_of 1 1 (pos 3) ∷ []

first_of_two : row ada two_persons ≡ record { cost = pos 1; object = 0; arc = 0 } ∷ record { cost = pos 2; object = 1; arc = 1 } ∷ []
unfolding row
first_of_two = refl

second_of_two : row ben two_persons ≡ record { cost = pos 1; object = 0; arc = 2 } ∷ record { cost = pos 3; object = 1; arc = 3 } ∷ []
unfolding row
second_of_two = refl

-- a pair that is listed twice is in the row twice, and arcs of other persons between leave the places as they are
listed_twice : row ben (arc_of 1 0 (pos 4) ∷ arc_of 0 0 (pos 9) ∷ arc_of 1 0 (pos 2) ∷ []) ≡ record { cost = pos 4; object = 0; arc = 0 } ∷ record { cost = pos 2; object = 0; arc = 2 } ∷ []
unfolding row
listed_twice = refl

unlisted_person : row nobody two_persons ≡ []
unfolding row
unlisted_person = refl

no_spread : IsSpread [] (pos 0)
no_spread = inl (refl, refl)

abbrev signed : List Arc
signed = arc_of 0 0 (neg_ℤ (pos 7)) ∷ arc_of 0 1 (pos 4) ∷ []

spread_of_signed : IsSpread signed (pos 11)
spread_of_signed = inr (
  neg_ℤ (pos 7),
  pos 4,
  record {
    least_listed = (0, arc_of 0 0 (neg_ℤ (pos 7)), omega arith, refl, refl);
    greatest_listed = (1, arc_of 0 1 (pos 4), omega arith, refl, refl);
    none_below = All-from_recursion (λ a. neg_ℤ (pos 7) ≤ℤ a.cost) signed (search rules);
    none_above = All-from_recursion (λ a. a.cost ≤ℤ pos 4) signed (search rules);
  },
  refl,
)
