-- The bid of a person: the best arc of the person's row, the second best, and the amount.
use Rattle.std.specs.Prelude.{◌≡◌, ◌≢◌, ℕ, ◌≤◌, ◌⊎◌, ℤ, ◌+ℤ◌, ◌-ℤ◌, ◌*ℤ◌, ◌≤ℤ◌, List, Contains, All}
use Rattle.auc_graph.specs.declared.rows.RowArc.{RowArc}
use Rattle.auc_graph.specs.Value.{value_at}

-- the value of an arc of a row at these prices: its scaled cost plus the price of its object
abbrev pub value : ℤ → (ℕ → ℤ) → RowArc → ℤ
value scale price a = value_at scale price a.cost a.object

-- The best arc of a row has the least value. Ties go to the lowest object, and then to the earliest arc.
pub record IsBestArc (value_of : RowArc → ℤ) (row : List RowArc) (best : RowArc) : Type 0 where
  pub listed : Contains row best
  pub least : All (λ b. value_of best ≤ℤ value_of b) row
  pub lowest : All (λ b. value_of best ≡ value_of b → best.object ≤ b.object) row
  pub earliest : All (λ b. value_of best ≡ value_of b → best.object ≡ b.object → best.arc ≤ b.arc) row

-- the second best arc: one of the least value among the arcs to other objects than the best arc's
pub record IsNextArc (value_of : RowArc → ℤ) (row : List RowArc) (best next : RowArc) : Type 0 where
  pub listed : Contains row next
  pub other : next.object ≢ best.object
  pub least : All (λ b. b.object ≢ best.object → value_of next ≤ℤ value_of b) row

-- The amount of a bid: the price of the best object, plus the margin to the second best arc, plus eps. Where all arcs
-- of the row lead to one object, the scaled spread of all costs takes the place of the margin.
abbrev pub IsAmount : ℤ → ℤ → ℤ → (ℕ → ℤ) → List RowArc → RowArc → ℤ → Type 0
IsAmount scale spread eps price row best amount =
    ((next : RowArc) × IsNextArc (value scale price) row best next × (amount ≡ (price best.object +ℤ (value scale
    price next -ℤ value scale price best)) +ℤ eps))
    ⊎ (All (λ b. b.object ≡ best.object) row × (amount ≡ (price best.object +ℤ (scale *ℤ spread)) +ℤ eps))

-- the bid of a person with this row: by the best arc, with the amount that the rule gives
pub record IsBid (scale spread eps : ℤ) (price : ℕ → ℤ) (row : List RowArc) (arc : RowArc) (amount : ℤ) : Type 0 where
  pub best : IsBestArc (value scale price) row arc
  pub amount_is : IsAmount scale spread eps price row arc amount
