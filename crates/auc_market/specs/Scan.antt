-- One pass over a row: the least value and the second least.
use Rattle.std.specs.Prelude.{ℕ, ℤ, pos, neg_ℤ, ◌≡◌, ◌≢◌, ◌⊎◌, ◌+◌, ◌-◌, ◌<◌, ◌^◌, ◌≤ℤ◌, ◌<ℤ◌, List, length, All, slice_index_or}
use Rattle.auc_graph.specs.declared.limits.TheConstants.{MOST_SCALE}
use Rattle.auc_graph.specs.Dual.{price_at}
use Rattle.auc_graph.specs.Price.{IsPrice}
use Rattle.auc_graph.specs.Value.{value_at}
use Rattle.auc_rows.specs.declared.arc.ShortArc.{ShortArc}
use Rattle.auc_rows.specs.Rows.{IsShort}
use Rattle.auc_market.specs.declared.scan.Found.{Found}

-- the value of an arc at prices: its scaled cost plus the price of its object
abbrev pub short_value : ℤ → List ℤ → ShortArc → ℤ
short_value scale prices s = value_at scale (price_at prices) s.cost s.object

-- the value that stands for no arc
abbrev pub endless : ℤ
endless = pos (2 ^ 63 - 1)

-- the range of values that costs and prices within the limits can give
pub record IsValue (v : ℤ) : Type 0 where
  pub low : neg_ℤ (pos (2 ^ 52)) ≤ℤ v
  pub high : v ≤ℤ pos (2 ^ 61 + 2 ^ 52)

-- the range of the factor that scales costs, one more than the number of persons
pub record IsScale (scale : ℤ) : Type 0 where
  pub low : pos 1 ≤ℤ scale
  pub high : scale ≤ℤ MOST_SCALE

-- a row whose arcs lead to objects with prices, all in range
pub record IsPricedRow (scale : ℤ) (prices : List ℤ) (row : List ShortArc) : Type 0 where
  pub scale_is : IsScale scale
  pub arcs : All (IsShort (length prices)) row
  pub within : All IsPrice prices

-- the arc that is read past the end of a row
abbrev pub no_arc : ShortArc
no_arc = record { object = 0; cost = pos 0 }

-- least and second least value after one more value, by cases
pub record Lowered (f : Found) (v : ℤ) (place : ℕ) (r : Found) : Type 0 where
  pub wins : v <ℤ f.value → r ≡ record { value = v; second = f.value; place = place }
  pub next : f.value ≤ℤ v → v <ℤ f.second → r ≡ record { value = f.value; second = v; place = f.place }
  pub stays : f.value ≤ℤ v → f.second ≤ℤ v → r ≡ f

-- the same after two more values, of consecutive arcs
abbrev pub LoweredTwice : Found → ℤ → ℤ → ℕ → Found → Type 0
LoweredTwice f one other place r = (between : Found) × Lowered f one place between × Lowered between other (place + 1) r

-- a value that is at most that of one of the first n arcs of a row
pub record IsWorth (val : ShortArc → ℤ) (row : List ShortArc) (n : ℕ) (v : ℤ) : Type 0 where
  pub range : IsValue v
  pub place : ℕ
  pub known : place < n
  pub below : v ≤ℤ val (slice_index_or row place no_arc)

-- the least value of the first n arcs and its place, and a second value that no other of these arcs is below
pub record IsFound (val : ShortArc → ℤ) (row : List ShortArc) (n : ℕ) (f : Found) : Type 0 where
  pub known : f.place < n
  pub is : f.value ≡ val (slice_index_or row f.place no_arc)
  pub range : IsValue f.value
  pub others : (m : ℕ) → m < n → m ≢ f.place → f.second ≤ℤ val (slice_index_or row m no_arc)
  pub least : f.value ≤ℤ f.second
  pub second_is : ((f.second ≡ endless) × (n ≡ 1)) ⊎ IsWorth val row n f.second
