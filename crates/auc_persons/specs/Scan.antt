-- One pass over a row: the best arc, and the least value to another object.
use Rattle.std.specs.Prelude.{◌≡◌, ◌≢◌, ℕ, ◌+◌, ◌-◌, ◌^◌, ◌<◌, ◌≤◌, ◌⊎◌, ℤ, pos, neg_ℤ, ◌≤ℤ◌, ◌<ℤ◌, List, Contains, All, slice_index_or}
use Rattle.auc_graph.specs.declared.rows.RowArc.{RowArc}
use Rattle.auc_persons.specs.declared.bidder.scan.Scan.{Scan}

-- the copy of an object's price
abbrev pub copy_in : List ℤ → ℕ → ℤ
copy_in copies object = slice_index_or copies object (pos 0)

-- the value that stands for no arc
abbrev pub endless : ℤ
endless = pos (2 ^ 63 - 1)

-- the range of values that costs and prices within the limits can give
pub record IsValue (v : ℤ) : Type 0 where
  pub low : neg_ℤ (pos (2 ^ 52)) ≤ℤ v
  pub high : v ≤ℤ pos (2 ^ 61 + 2 ^ 52)

-- an arc of the row to another object, of this value
pub record HasOther (val : RowArc → ℤ) (row : List RowArc) (a : RowArc) (second : ℤ) : Type 0 where
  pub arc : RowArc
  pub listed : Contains row arc
  pub other : arc.object ≢ a.object
  pub value_is : val arc ≡ second
  pub in_range : IsValue second

-- a value of an arc to another object, or `endless` where there is none
abbrev pub Reached : (RowArc → ℤ) → List RowArc → RowArc → ℤ → Type 0
Reached val row a second =
    (All (λ b. b.object ≡ a.object) row × (second ≡ endless))
    ⊎ HasOther val row a second

-- the result of a pass over a row: its best arc, with ties by object and place, and the least value to another object
pub record IsScan (val : RowArc → ℤ) (row : List RowArc) (f : Scan) : Type 0 where
  pub listed : Contains row f.best
  pub is_value : f.value ≡ val f.best
  pub in_range : IsValue f.value
  pub least : All (λ b. f.value ≤ℤ val b) row
  pub lowest : All (λ b. f.value ≡ val b → f.best.object ≤ b.object) row
  pub earliest : All (λ b. f.value ≡ val b → f.best.object ≡ b.object → f.best.arc ≤ b.arc) row
  pub others : All (λ b. b.object ≢ f.best.object → f.second ≤ℤ val b) row
  pub reached : Reached val row f.best f.second

-- the arc is better than the best so far: of a lower value, or of the same to a lower object
abbrev pub Beats : RowArc → ℤ → Scan → Type 0
Beats a v f = (v <ℤ f.value) ⊎ ((v ≡ f.value) × (a.object < f.best.object))

abbrev pub Loses : RowArc → ℤ → Scan → Type 0
Loses a v f = (f.value <ℤ v) ⊎ ((v ≡ f.value) × (f.best.object ≤ a.object))
