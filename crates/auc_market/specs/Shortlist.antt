-- Candidate lists: what they say of a row, which stays true while prices rise.
use Rattle.std.specs.Prelude.{ℕ, ℤ, pos, ◌≡◌, ◌⊎◌, ◌≤ℤ◌, List, [], All, Contains, slice_index_or}
use Rattle.auc_rows.specs.declared.arc.ShortArc.{ShortArc}
use Rattle.auc_rows.specs.Rows.{FlatTable, flat_row_of, scale_in}
use Rattle.auc_market.specs.declared.best.Best.{Best}
use Rattle.auc_market.specs.declared.shortlist.Shortlist.{Shortlist}
use Rattle.auc_market.specs.Scan.{IsValue, endless, short_value}

-- a value that is at most that of an arc of the row
pub record IsSecond (val : ShortArc → ℤ) (row : List ShortArc) (v : ℤ) : Type 0 where
  pub range : IsValue v
  pub arc : ShortArc
  pub listed : Contains row arc
  pub below : v ≤ℤ val arc

-- A best arc of the row, its value, and a second value that no other arc is below. Without another arc there is no
-- second.
pub record IsBest (val : ShortArc → ℤ) (row : List ShortArc) (b : Best) : Type 0 where
  pub listed : Contains row b.arc
  pub is : b.value ≡ val b.arc
  pub range : IsValue b.value
  pub others : All (λ a. (a ≡ b.arc) ⊎ (b.second ≤ℤ val a)) row
  pub least : b.value ≤ℤ b.second
  pub second_is : ((b.second ≡ endless) × All (λ a. a ≡ b.arc) row) ⊎ IsSecond val row b.second

abbrev pub no_list : Shortlist
no_list = record { bound = pos 0; arcs = record { items = [] } }

-- an empty list, which says nothing
abbrev pub SaysNothing : Shortlist → Type 0
SaysNothing l = l.arcs.items ≡ []

-- a list of the arcs seen so far: its arcs are among them, and the value of each other one is the bound at least
pub record Gathered (val : ShortArc → ℤ) (seen : List ShortArc) (l : Shortlist) : Type 0 where
  pub members : All (Contains seen) l.arcs.items
  pub rest : All (λ b. Contains l.arcs.items b ⊎ (l.bound ≤ℤ val b)) seen

-- a correct list of a row: it is empty, or a list of the arcs of the whole row
abbrev pub Says : (ShortArc → ℤ) → List ShortArc → Shortlist → Type 0
Says val row l = SaysNothing l ⊎ Gathered val row l

abbrev pub list_at : List Shortlist → ℕ → Shortlist
list_at lists i = slice_index_or lists i no_list

-- each person's list is correct at these prices
abbrev pub Kept : FlatTable → List ℤ → List Shortlist → Type 0
Kept r prices lists = (i : ℕ) → Says (short_value (scale_in r) prices) (flat_row_of r i) (list_at lists i)
