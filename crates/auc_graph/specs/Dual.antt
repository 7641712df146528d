-- Epsilon-complementary slackness of arcs at prices, and the dual bound: what prices say of the cost of every
-- assignment.
use Rattle.std.specs.Prelude.{◌≡◌, ℕ, ◌+◌, ◌<◌, ◌≤◌, ◌==◌, ◌&&◌, Bool, List, [], ◌∷◌, length, map, filter, All, Contains, ℤ, pos, ◌+ℤ◌, ◌-ℤ◌, ◌*ℤ◌, ◌≤ℤ◌, int_le, int_lt, slice_index_or}
use Rattle.std.specs.List.{range_with_len}
use Rattle.std.specs.Int.{int_min}
use Rattle.auc_graph.specs.declared.arc.Arc.{Arc}
use Rattle.auc_graph.specs.Problem.{Problem}
use Rattle.auc_graph.specs.Assignment.{total, object_of}
use Rattle.auc_graph.specs.Value.{value_at}

-- the price of an object, or 0 where the list has none
abbrev pub price_at : List ℤ → ℕ → ℤ
price_at prices j = slice_index_or prices j (pos 0)

-- the factor that scales costs: one more than the number of persons
abbrev pub scale_of : Problem → ℕ
scale_of p = p.persons + 1

-- the value of an arc at prices: its scaled cost plus the price of its object
abbrev pub arc_value : ℕ → List ℤ → Arc → ℤ
arc_value scale prices a = value_at (pos scale) (price_at prices) a.cost a.object

-- epsilon-complementary slackness (Bertsekas) of a chosen arc: no arc of the same person has a value that is lower by
-- more than eps
abbrev pub IsSlackRight : ℤ → ℕ → List ℤ → List Arc → Arc → Type 0
IsSlackRight eps scale prices arcs chosen =
    All (λ a. a.person ≡ chosen.person → arc_value scale prices chosen ≤ℤ (arc_value scale prices a +ℤ eps)) arcs

-- the least of a number and those of a list
abbrev pub lowest : ℤ → List ℤ → ℤ
lowest z [] = z
lowest z (y ∷ ys) = int_min y (lowest z ys)

-- the least of some numbers, and 0 where there is none
abbrev pub least_of : List ℤ → ℤ
least_of [] = pos 0
least_of (z ∷ zs) = lowest z zs

-- the arc is one of the person's
abbrev pub is_his : ℕ → Arc → Bool
is_his person a = a.person == person

-- the values of a person's arcs, by this measure
abbrev pub values : (Arc → ℤ) → List Arc → ℕ → List ℤ
values value arcs person = map value (filter (is_his person) arcs)

-- the least value of a person's arcs, by this measure
abbrev pub least_value : (Arc → ℤ) → List Arc → ℕ → ℤ
least_value value arcs person = least_of (values value arcs person)

-- the sum over the persons of the least value of their arcs, minus the sum of all prices
abbrev pub dual : Problem → List ℤ → ℤ
dual p prices = total (map (least_value (arc_value (scale_of p) prices) p.arcs) (range_with_len 0 p.persons)) -ℤ total prices

-- the least number that is, scaled, at least d
pub record IsLower (scale : ℕ) (d lower : ℤ) : Type 0 where
  pub reaches : d ≤ℤ (pos scale *ℤ lower)
  pub least : (k : ℤ) → d ≤ℤ (pos scale *ℤ k) → lower ≤ℤ k

-- the same as a test without division: the scaled number is at least d, and exceeds it by less than the scale
abbrev pub is_lower : ℕ → ℤ → ℤ → Bool
is_lower scale d lower = int_le d (pos scale *ℤ lower) && int_lt (pos scale *ℤ lower) (d +ℤ pos scale)

-- each person has an arc
abbrev pub EachHasArc : Problem → Type 0
EachHasArc p = (person : ℕ) → person < p.persons → (arc : Arc) × Contains p.arcs arc × (arc.person ≡ person)

-- no price is negative
abbrev pub AreNotNegative : List ℤ → Type 0
AreNotNegative prices = (j : ℕ) → pos 0 ≤ℤ price_at prices j

-- at most as many objects as there are persons have a price other than 0
pub record AreFewPriced (p : Problem) (prices : List ℤ) : Type 0 where
  pub priced : List ℕ
  pub few : length priced ≤ p.persons
  pub others : (j : ℕ) → ¬ Contains priced j → price_at prices j ≡ pos 0

-- each object that the choice leaves unassigned has price 0
abbrev pub IsNoPriceLeft : List ℤ → List Arc → Type 0
IsNoPriceLeft prices choice = (j : ℕ) → ¬ Contains (map object_of choice) j → price_at prices j ≡ pos 0
