-- The arcs of one person, and the spread of the costs.
use Rattle.std.specs.Prelude.{◌≡◌, ℕ, ◌==◌, Bool, ◌⊎◌, List, [], map, filter, All, Any, ℤ, pos, ◌-ℤ◌, ◌≤ℤ◌}
use Rattle.std.specs.List.{enumerate_from}
use Rattle.auc_graph.specs.declared.arc.Arc.{Arc}
use Rattle.auc_graph.specs.declared.rows.RowArc.{RowArc}

-- an arc of a row: its cost, its object and its place in the problem's list
abbrev pub row_arc : ℕ × Arc → RowArc
row_arc x = record { cost = x.1.cost; object = x.1.object; arc = x.0 }

abbrev pub is_of : ℕ → ℕ × Arc → Bool
is_of person x = x.1.person == person

-- the row of a person: the person's arcs in the order of the problem's list, each with its place there
unfoldable pub row : ℕ → List Arc → List RowArc
row person arcs = map row_arc (filter (is_of person) (enumerate_from 0 arcs))

-- the least and the greatest cost of some arcs
pub record IsCostRange (arcs : List Arc) (least greatest : ℤ) : Type 0 where
  pub least_listed : Any (λ a. a.cost ≡ least) arcs
  pub greatest_listed : Any (λ a. a.cost ≡ greatest) arcs
  pub none_below : All (λ a. least ≤ℤ a.cost) arcs
  pub none_above : All (λ a. a.cost ≤ℤ greatest) arcs

-- the greatest minus the least cost, and 0 without arcs
abbrev pub IsSpread : List Arc → ℤ → Type 0
IsSpread arcs spread =
    ((arcs ≡ []) × (spread ≡ pos 0))
    ⊎ ((least : ℤ) × (greatest : ℤ) × IsCostRange arcs least greatest × (spread ≡ greatest -ℤ least))
