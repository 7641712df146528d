-- The bound of some prices, and the least cost that it allows, computed by the definitions.
use Rattle.std.proofs.Common.{◌≡◌, true, false, [], ◌∷◌, refl}
use Rattle.std.specs.Prelude.{pos, neg_ℤ}
use Rattle.auc_graph.specs.Problem.{Problem}
use Rattle.auc_graph.specs.Reading.{arc_of}
use Rattle.auc_graph.specs.Dual.{dual, is_lower}

abbrev two_persons : Problem
two_persons = record { persons = 2; objects = 2; arcs = arc_of 0 0 (pos 1) ∷ arc_of 0 1 (pos 2) ∷ arc_of 1 0 (pos 1) ∷ arc_of 1 1 (pos 3) ∷ [] }

at_no_prices : dual two_persons (pos 0 ∷ pos 0 ∷ []) ≡ pos 6
at_no_prices = refl

after_one_bid : dual two_persons (pos 4 ∷ pos 0 ∷ []) ≡ pos 9
after_one_bid = refl

after_two_bids : dual two_persons (pos 7 ∷ pos 0 ∷ []) ≡ pos 8
after_two_bids = refl

-- with one more object, which no person takes, its price is lost
abbrev one_object_more : Problem
one_object_more = record { persons = 2; objects = 3; arcs = two_persons.arcs }

a_price_left : dual one_object_more (pos 7 ∷ pos 0 ∷ pos 2 ∷ []) ≡ pos 6
a_price_left = refl

-- 8 thirds are 3, rounded up
thirds_of_eight : is_lower 3 (pos 8) (pos 3) ≡ true
thirds_of_eight = refl

not_rounded_down : is_lower 3 (pos 8) (pos 2) ≡ false
not_rounded_down = refl

not_one_more : is_lower 3 (pos 8) (pos 4) ≡ false
not_one_more = refl

-- what has no rest stays
thirds_of_nine : is_lower 3 (pos 9) (pos 3) ≡ true
thirds_of_nine = refl

-- up is toward 0 below it: -7 thirds are -2, and -2 thirds are 0
thirds_below_zero : is_lower 3 (neg_ℤ (pos 7)) (neg_ℤ (pos 2)) ≡ true
thirds_below_zero = refl

not_away_from_zero : is_lower 3 (neg_ℤ (pos 7)) (neg_ℤ (pos 3)) ≡ false
not_away_from_zero = refl

up_to_zero : is_lower 3 (neg_ℤ (pos 2)) (pos 0) ≡ true
up_to_zero = refl
