-- What stands in the caller's memory.
use Rattle.std.specs.Prelude.{◌≡◌, ℕ, ℤ, pos, List, length, drop, map, slice_get, Some}
use Rattle.auc_graph.specs.declared.arc.Arc.{Arc}
use Rattle.auc_graph.specs.Problem.{Problem}

-- what a solve writes: places of arcs or persons, prices, and objects
pub record Memory : Type 0 where
  pub choice : List ℕ
  pub prices : List ℤ
  pub set : List ℕ

abbrev pub memory : List ℕ → List ℤ → List ℕ → Memory
memory choice prices set = record { choice = choice; prices = prices; set = set }

-- what stands after the first n numbers has stayed
abbrev pub StaysAfter : ℕ → List ℕ → List ℕ → Type 0
StaysAfter n old new = drop n new ≡ drop n old

-- a place for each person, a price for each object, and room for as many objects as persons
pub record AreSizes (p : Problem) (m : Memory) : Type 0 where
  pub choice : length m.choice ≡ p.persons
  pub prices : length m.prices ≡ p.objects
  pub set : length m.set ≡ p.persons

-- what stands in place of an arc where a list has none
abbrev pub no_arc : Arc
no_arc = record { cost = pos 0; person = 0; object = 0 }

-- at these places of the list stand these arcs
abbrev pub AreAt : List Arc → List ℕ → List Arc → Type 0
AreAt arcs places choice = map (slice_get arcs) places ≡ map Some choice
