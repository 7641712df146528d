-- What shows that an assignment of a table costs least: at the prices no entry is better for a person than his own, and
-- an object that nobody has is free. And what shows a bound of what any assignment costs.
use Rattle.std.specs.Prelude.{◌≡◌, ◌≢◌, ◌⊎◌, Bool, true, ℕ, ◌+◌, ◌<◌, get_or, List, length, map, All, ℤ, pos, neg_ℤ, ◌+ℤ◌, ◌-ℤ◌, ◌*ℤ◌, ◌≤ℤ◌, ◌≤◌}
use Rattle.auc_graph.specs.declared.limits.TheConstants.{MOST_COST, MOST_PERSONS}
use Rattle.auc_graph.specs.Assignment.{total, total_cost}
use Rattle.auc_graph.specs.Price.{IsPrice}
use Rattle.auc_claim.specs.declared.lists.Pick.{Pick}
use Rattle.auc_claim.specs.declared.reason.Reason.{Reason}
use Rattle.auc_claim.specs.Claim.{chosen}
use Rattle.auc_call.specs.declared.solved.Solved.{Solved}
use Rattle.auc_call.specs.declared.solved.Solved.TheVariants.{Optimal, Infeasible, Bracket}
use Rattle.auc_table.specs.declared.proposal.Proposal.{Proposal}
use Rattle.auc_table.specs.declared.table.Table.{Table}
use Rattle.auc_dense.specs.Table.{IsTable, row_of}

abbrev pub no_pick : Pick
no_pick = record { cost = pos 0; object = 0 }

-- the pick of the person at this place
abbrev pub pick_at : List Pick → ℕ → Pick
pick_at picks person = get_or picks person no_pick

-- what an object costs a person of whose row this is, with its price
abbrev pub worth_at : List ℤ → List ℤ → ℕ → ℤ
worth_at row prices object = get_or row object (pos 0) +ℤ get_or prices object (pos 0)

-- no entry before this place that is no gap is worth less
abbrev pub IsNoneBelow : ℤ → List ℤ → List ℤ → ℤ → ℕ → Type 0
IsNoneBelow gap row prices least place =
    (object : ℕ) → object < place → get_or row object (pos 0) ≢ gap → least ≤ℤ worth_at row prices object

-- The pick is an entry of the row that is no gap, and a cost.
pub record IsPickIn (gap : ℤ) (row : List ℤ) (pick : Pick) : Type 0 where
  pub inside : pick.object < length row
  pub cost : pick.cost ≡ get_or row pick.object (pos 0)
  pub own : pick.cost ≢ gap
  pub low : neg_ℤ MOST_COST ≤ℤ pick.cost
  pub high : pick.cost ≤ℤ MOST_COST

-- And none of these is better.
pub record IsBestIn (gap : ℤ) (row prices : List ℤ) (pick : Pick) : Type 0 where
  pub entry : IsPickIn gap row pick
  pub best : IsNoneBelow gap row prices (worth_at row prices pick.object) (length row)

-- This holds of each person's row and pick.
pub record HoldsOfEach (objects : ℕ) (costs : List ℤ) (stride persons : ℕ) (picks : List Pick) (Holds : List ℤ → Pick → Type 0) : Type 0 where
  pub many : length picks ≡ persons
  pub each : (person : ℕ) → person < persons → Holds (row_of objects costs stride person) (pick_at picks person)

-- Each person's pick is an entry.
abbrev pub ArePicks : ℕ → List ℤ → ℕ → ℤ → ℕ → List Pick → Type 0
ArePicks objects costs stride gap persons picks = HoldsOfEach objects costs stride persons picks (IsPickIn gap)

-- Each person's pick is the best of his row.
abbrev pub AreBest : ℕ → List ℤ → ℕ → ℤ → List ℤ → ℕ → List Pick → Type 0
AreBest objects costs stride gap prices persons picks =
    HoldsOfEach objects costs stride persons picks (λ row pick. IsBestIn gap row prices pick)

-- each object that is picked is held by who picks it, so nobody else does
abbrev pub AreHeldApart : List Pick → List ℕ → Type 0
AreHeldApart picks holders = (person : ℕ) → person < length picks → get_or holders (pick_at picks person).object (length picks) ≡ person

-- each object that has a price is picked
abbrev pub AreOthersFree : List Pick → List ℤ → Type 0
AreOthersFree picks prices =
    (object : ℕ) → object < length prices → get_or prices object (pos 0) ≢ pos 0 → (person : ℕ)
    × (person < length picks) × ((pick_at picks person).object ≡ object)

abbrev pub scaled : ℤ → ℤ → ℤ
scaled scale price = scale *ℤ price

-- A price in costs of a table: scaled, it is still one.
pub record IsPlainPrice (scale price : ℤ) : Type 0 where
  pub own : IsPrice price
  pub fair : IsPrice (scaled scale price)

-- no two persons pick the same object
abbrev pub AreApart : List Pick → Type 0
AreApart picks = (one other : ℕ) → one < other → other < length picks → (pick_at picks one).object ≢ (pick_at picks other).object

-- So many persons are right, and each row lies within the costs.
pub record IsGiven (t : Table) : Type 0 where
  pub few : t.persons ≤ MOST_PERSONS
  pub table : IsTable t.persons t.objects t.stride (length t.costs.now)

-- A proposal has an object for each person, and a price for each object.
pub record IsWhole (t : Table) (proposal : Proposal) : Type 0 where
  pub choice : length proposal.objects.items ≡ t.persons
  pub priced : length proposal.prices.items ≡ t.objects
  pub fair : All (IsPlainPrice (pos (t.persons + 1))) proposal.prices.items
  pub prices : All IsPrice proposal.prices.items

-- The picks and the prices show that the picks are a least assignment of the table.
pub record ShowLeast (persons objects : ℕ) (costs : List ℤ) (stride : ℕ) (gap : ℤ) (picks : List Pick) (prices : List ℤ) : Type 0 where
  pub priced : length prices ≡ objects
  pub fair : All (IsPlainPrice (pos (persons + 1))) prices
  pub best : AreBest objects costs stride gap prices persons picks
  pub single : AreApart picks
  pub free : AreOthersFree picks prices

-- what a pick costs, with the price of its object
abbrev pub pick_worth : List ℤ → Pick → ℤ
pick_worth prices pick = pick.cost +ℤ get_or prices pick.object (pos 0)

-- what the best picks cost with their prices, less all prices
abbrev pub lower_at : List ℤ → List Pick → ℤ
lower_at prices bests = total (map (pick_worth prices) bests) -ℤ total prices

-- The picks are an assignment of the table, and by the prices none costs less than the bound.
pub record ShowBracket (persons objects : ℕ) (costs : List ℤ) (stride : ℕ) (gap : ℤ) (picks : List Pick) (prices : List ℤ) (lower : ℤ) : Type 0 where
  pub priced : length prices ≡ objects
  pub fair : All (IsPlainPrice (pos (persons + 1))) prices
  pub own : ArePicks objects costs stride gap persons picks
  pub single : AreApart picks
  pub few : (objects ≡ persons) ⊎ AreOthersFree picks prices
  pub bests : List Pick
  pub best : AreBest objects costs stride gap prices persons bests
  pub lower_is : lower ≡ lower_at prices bests

-- What picks and prices show of a table: a least assignment, or where the search over it was ended, a bracket.
abbrev pub IsShown : ℕ → ℕ → List ℤ → ℕ → ℤ → Bool → List ℤ → List Pick → Solved → Type 0
IsShown persons objects costs stride gap is_ended prices picks (Optimal cost) =
    ShowLeast persons objects costs stride gap picks prices × (cost ≡ total_cost (chosen 0 picks))
IsShown persons objects costs stride gap is_ended prices picks (Infeasible few many) = ⊥
IsShown persons objects costs stride gap is_ended prices picks (Bracket reason lower cost) =
    ShowBracket persons objects costs stride gap picks prices lower × (cost ≡ total_cost (chosen 0 picks))
    × (is_ended ≡ true) × (reason ≡ Reason.Bids)
