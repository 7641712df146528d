-- The eps and the prices with which a run begins, and those with which a phase may begin.
use Rattle.std.specs.Prelude.{◌≡◌, ℤ, pos, List, Option, Some, None, All, length, replicate}
use Rattle.auc_graph.specs.Table.{Table}
use Rattle.auc_graph.specs.Price.{IsPrice}
use Rattle.auc_phases.specs.Eps.{first_eps}

-- one price for each object, in range
pub record ArePrices (t : Table) (prices : List ℤ) : Type 0 where
  pub each : length prices ≡ t.objects
  pub within : All IsPrice prices

-- a run from start prices begins with them, at eps 1, where there are as many objects as persons
pub record BeginsFrom (t : Table) (start : List ℤ) (eps : ℤ) (prices : List ℤ) : Type 0 where
  pub at_one : eps ≡ pos 1
  pub prices_are : prices ≡ start
  pub square : t.objects ≡ length t.rows

-- The eps and the prices of the first phase of a run: the first eps, and prices of 0. With start prices it is these and
-- eps 1: then it is the only phase, and there are as many objects as persons.
abbrev pub Begins : Table → Option (List ℤ) → ℤ → List ℤ → Type 0
Begins t None eps prices = (eps ≡ first_eps t) × (prices ≡ replicate t.objects (pos 0))
Begins t (Some start) eps prices = BeginsFrom t start eps prices

-- a run may begin with this eps and these prices
abbrev pub MayBegin : Table → ℤ → List ℤ → Type 0
MayBegin t eps prices = (start : Option (List ℤ)) × Begins t start eps prices
