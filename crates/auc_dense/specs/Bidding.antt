-- A phase of bids over a table that starts at prices 0, in costs of the table: each bid raises a price by what the
-- bidder's second best entry is worse, and by 1.
use Rattle.std.specs.Prelude.{◌≡◌, ◌≢◌, ◌⊎◌, ℕ, ◌+◌, ◌-◌, ◌<◌, ◌≤◌, ◌^◌, get_or, set, List, length, map, All, ℤ, pos, neg_ℤ, ◌+ℤ◌, ◌-ℤ◌, ◌≤ℤ◌, ◌<ℤ◌}
use Rattle.auc_graph.specs.declared.limits.TheConstants.{MOST_COST}
use Rattle.auc_graph.specs.Reading.{problem}
use Rattle.auc_claim.specs.declared.cert.CertParts.{CertParts}
use Rattle.auc_claim.specs.declared.lists.Pick.{Pick}
use Rattle.auc_claim.specs.declared.reason.Reason.{Reason}
use Rattle.auc_letters.specs.declared.limits.TheConstants.{NOBODY}
use Rattle.auc_answers.specs.declared.answer.Answer.{Answer}
use Rattle.auc_direct.specs.Endings.{IsLimitedFirst}
use Rattle.auc_dense.specs.declared.bidding.Found.{Found}
use Rattle.auc_dense.specs.declared.bidding.Offer.{Offer}
use Rattle.auc_dense.specs.declared.bidding.Turn.{Turn}
use Rattle.auc_dense.specs.declared.bidding.Phase.{Phase}
use Rattle.auc_dense.specs.Table.{row_of, table_arcs}
use Rattle.auc_dense.specs.Tried.{IsPlainPrice, scaled, worth_at}

-- ---- the best entry of a row

-- an entry before this place that is no gap
pub record IsOwn (gap : ℤ) (row : List ℤ) (end place : ℕ) : Type 0 where
  pub before : place < end
  pub own : get_or row place (pos 0) ≢ gap

-- the range of the costs
pub record IsCost (cost : ℤ) : Type 0 where
  pub low : neg_ℤ MOST_COST ≤ℤ cost
  pub high : cost ≤ℤ MOST_COST

-- each entry that is no gap is a cost
abbrev pub AreCosts : ℤ → List ℤ → Type 0
AreCosts gap row = (place : ℕ) → IsOwn gap row (length row) place → IsCost (get_or row place (pos 0))

-- the range of a cost with a price
pub record IsWorth (worth : ℤ) : Type 0 where
  pub low : neg_ℤ (pos (2 ^ 30)) ≤ℤ worth
  pub high : worth ≤ℤ pos (2 ^ 61 + 2 ^ 30)

-- an entry of these that isn't at this place
abbrev pub HasOther : ℤ → List ℤ → ℕ → ℕ → Type 0
HasOther gap row end place = (other : ℕ) × IsOwn gap row end other × (other ≢ place)

-- what stands for the worth of no entry
abbrev pub endless : ℤ
endless = pos (2 ^ 63 - 1)

abbrev pub found : ℕ → ℤ → ℤ → Found
found p l s = record { place = p; least = l; second = s }

-- the least and the second least after one more, by cases
pub record IsLowered (old : Found) (place : ℕ) (worth : ℤ) (new : Found) : Type 0 where
  pub wins : worth <ℤ old.least → new ≡ found place worth old.least
  pub next : old.least ≤ℤ worth → worth <ℤ old.second → new ≡ found old.place old.least worth
  pub stays : old.least ≤ℤ worth → old.second ≤ℤ worth → new ≡ old

-- none of these entries but that of one place is worth less
abbrev pub IsNoOtherBelow : ℤ → List ℤ → List ℤ → ℕ → ℤ → ℕ → Type 0
IsNoOtherBelow gap row prices place second end =
    (other : ℕ) → IsOwn gap row end other → other ≢ place → second ≤ℤ worth_at row prices other

-- the least is the worth of the entry at its place
abbrev pub IsLeastThere : ℤ → List ℤ → List ℤ → ℕ → Found → Type 0
IsLeastThere gap row prices end f =
    IsOwn gap row end f.place × IsWorth f.least × (f.least ≡ worth_at row prices f.place)

-- The least worth of the entries before this place, where there is one, and the second least, where there is another.
pub record IsFound (gap : ℤ) (row prices : List ℤ) (end : ℕ) (f : Found) : Type 0 where
  pub low : neg_ℤ (pos (2 ^ 30)) ≤ℤ f.least
  pub order : f.least ≤ℤ f.second
  pub least_is : (f.least ≡ endless) ⊎ IsLeastThere gap row prices end f
  pub below : (place : ℕ) → IsOwn gap row end place → f.least ≤ℤ worth_at row prices place
  pub others : IsNoOtherBelow gap row prices f.place f.second end
  pub second_is : (f.second ≡ endless) ⊎ (IsWorth f.second × HasOther gap row end f.place)

-- by how much the second least is more than the least; 0 where there is no second
pub record IsMargin (f : Found) (margin : ℤ) : Type 0 where
  pub none : f.second ≡ endless → margin ≡ pos 0
  pub some : f.second ≢ endless → margin ≡ (f.second -ℤ f.least)

-- An entry of the row, and a margin by which no other is better. Where there is no other, the margin is 0.
pub record IsOffer (gap : ℤ) (row prices : List ℤ) (offer : Offer) : Type 0 where
  pub own : IsOwn gap row (length row) offer.object
  pub low : pos 0 ≤ℤ offer.margin
  pub high : offer.margin ≤ℤ pos (2 ^ 62)
  pub others : IsNoOtherBelow gap row prices offer.object
      (worth_at row prices offer.object +ℤ offer.margin) (length row)
  pub only : (offer.margin ≡ pos 0) ⊎ HasOther gap row (length row) offer.object

-- ---- one bid

-- The bidder: the displaced person, or else the next one. He has begun then.
pub record IsTurn (persons displaced begun : ℕ) (turn : Turn) : Type 0 where
  pub has_begun : turn.person < turn.begun
  pub within : turn.begun ≤ persons
  pub free : ((turn.person ≡ displaced) × (turn.begun ≡ begun)) ⊎ ((turn.person ≡ begun) × (turn.begun ≡ begun + 1))

-- a price and a holder for each object, and no more persons who have begun than there are
pub record IsPhase (persons objects : ℕ) (phase : Phase) : Type 0 where
  pub within : phase.begun ≤ persons
  pub priced : length phase.prices.items ≡ objects
  pub held : length phase.holders.items ≡ objects
  pub plain : All (IsPlainPrice (pos (persons + 1))) phase.prices.items

-- The bidder gets the object at this price. Its holder before is displaced.
pub record IsAwarded (old : Phase) (turn : Turn) (object : ℕ) (price : ℤ) (new : Phase) : Type 0 where
  pub prices : new.prices.items ≡ set old.prices.items object price
  pub holders : new.holders.items ≡ set old.holders.items object turn.person
  pub displaced : new.displaced ≡ get_or old.holders.items object NOBODY
  pub begun : new.begun ≡ turn.begun

-- The next bidder offers for the best entry of his row, and gets it.
pub record IsBid (persons objects : ℕ) (costs : List ℤ) (stride : ℕ) (gap : ℤ) (old new : Phase) : Type 0 where
  pub turn : Turn
  pub next : IsTurn persons old.displaced old.begun turn
  pub offer : Offer
  pub best : IsOffer gap (row_of objects costs stride turn.person) old.prices.items offer
  pub price : ℤ
  pub price_is : price ≡ ((get_or old.prices.items offer.object (pos 0) +ℤ offer.margin) +ℤ pos 1)
  pub plain : IsPlainPrice (pos (persons + 1)) price
  pub awarded : IsAwarded old turn offer.object price new

-- ---- two costs

-- a cost of the row that is no gap, and isn't this one
pub record IsOtherIn (gap : ℤ) (row : List ℤ) (cost other : ℤ) : Type 0 where
  pub place : ℕ
  pub inside : place < length row
  pub is : other ≡ get_or row place (pos 0)
  pub own : other ≢ gap
  pub differs : other ≢ cost

-- the same of a row of the table
pub record IsOther (persons objects : ℕ) (costs : List ℤ) (stride : ℕ) (gap : ℤ) (cost other : ℤ) : Type 0 where
  pub person : ℕ
  pub known : person < persons
  pub there : IsOtherIn gap (row_of objects costs stride person) cost other

-- two costs of the table that differ
pub record AreTwoCosts (persons objects : ℕ) (costs : List ℤ) (stride : ℕ) (gap : ℤ) : Type 0 where
  pub one : ℤ
  pub other : ℤ
  pub first : IsOther persons objects costs stride gap gap one
  pub second : IsOther persons objects costs stride gap one other

-- ---- the phase

-- Scaled, the prices are those to which exactly so many bids lead: with any picks and bounds they are what the limit of
-- bids leaves of a run.
pub record HaveBid (persons objects : ℕ) (costs : List ℤ) (stride : ℕ) (gap : ℤ) (bids : ℕ)
    (prices : List ℤ) : Type 0 where
  pub priced : length prices ≡ objects
  pub plain : All (IsPlainPrice (pos (persons + 1))) prices
  pub limited : (picks : List Pick) (lower cost : ℤ)
      → IsLimitedFirst (problem persons objects (table_arcs objects costs stride gap persons)) bids
      (Answer.Bracket (CertParts.Bracket Reason.Bids lower cost picks (map (scaled (pos (persons + 1))) prices)))
