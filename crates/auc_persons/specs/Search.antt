-- A pass over a row in which arcs come in any order.
use Rattle.std.specs.Prelude.{◌≡◌, ◌≢◌, ◌<◌, ◌≤◌, ◌⊎◌, Bool, true, false, ℤ, ◌≤ℤ◌, ◌<ℤ◌, List, Contains}
use Rattle.auc_graph.specs.declared.rows.RowArc.{RowArc}
use Rattle.auc_persons.specs.declared.bidder.scan.Scan.{Scan}
use Rattle.auc_persons.specs.Scan.{endless, HasOther, IsValue}

-- a second value: `endless`, or that of an arc of the row to another object
abbrev pub Met : (RowArc → ℤ) → List RowArc → RowArc → ℤ → Type 0
Met val row a second = (second ≡ endless) ⊎ HasOther val row a second

-- best and second are those of arcs of the row, which need not be the least
pub record IsFound (val : RowArc → ℤ) (row : List RowArc) (f : Scan) : Type 0 where
  pub listed : Contains row f.best
  pub is_value : f.value ≡ val f.best
  pub in_range : IsValue f.value
  pub ordered : f.value ≤ℤ f.second
  pub met : Met val row f.best f.second

-- the arc would change nothing
pub record Covers (val : RowArc → ℤ) (f : Scan) (b : RowArc) : Type 0 where
  pub range : val b <ℤ endless
  pub least : f.value ≤ℤ val b
  pub lowest : f.value ≡ val b → f.best.object ≤ b.object
  pub earliest : f.value ≡ val b → f.best.object ≡ b.object → f.best.arc ≤ b.arc
  pub others : b.object ≢ f.best.object → f.second ≤ℤ val b

-- an arc with a value above this limit changes nothing
abbrev pub IsLimit : Scan → ℤ → Type 0
IsLimit f l = (v : ℤ) → l <ℤ v → f.value ≤ℤ f.second → (f.value <ℤ v) × (f.second ≤ℤ v)

-- The arc is better than the best so far: of a lower value, or of the same to a lower object, or to the same object at
-- an earlier place.
abbrev pub Precedes : RowArc → ℤ → Scan → Type 0
Precedes a v f = (v <ℤ f.value) ⊎ ((v ≡ f.value) × ((a.object < f.best.object) ⊎ ((a.object ≡ f.best.object) × (a.arc < f.best.arc))))

abbrev pub Follows : RowArc → ℤ → Scan → Type 0
Follows a v f = (f.value <ℤ v) ⊎ ((v ≡ f.value) × ((f.best.object < a.object) ⊎ ((a.object ≡ f.best.object) × (f.best.arc ≤ a.arc))))

-- the result of a test whether an arc is better
abbrev pub PlaceJudged : Bool → RowArc → ℤ → Scan → Type 0
PlaceJudged true a v f = Precedes a v f
PlaceJudged false a v f = Follows a v f

-- best and second after one more arc, by cases
pub record Taken (f : Scan) (a : RowArc) (v : ℤ) (r : Scan) : Type 0 where
  pub same_first : a.object ≡ f.best.object → Precedes a v f → r ≡ record { value = v; second = f.second; best = a }
  pub other_first : a.object ≢ f.best.object → Precedes a v f → r ≡ record { value = v; second = f.value; best = a }
  pub other_next : a.object ≢ f.best.object → Follows a v f → v <ℤ f.second → r ≡ record { value = f.value; second = v; best = f.best }
  pub other_stays : a.object ≢ f.best.object → Follows a v f → f.second ≤ℤ v → r ≡ f
  pub same_stays : a.object ≡ f.best.object → Follows a v f → r ≡ f
