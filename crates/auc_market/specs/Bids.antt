-- The bids of a phase, one after another, and their number.
use Rattle.std.specs.Prelude.{ℕ, ℤ, ◌≡◌, ◌+◌, ◌≤◌, ◌<◌, List, length, set}
use Rattle.auc_claim.specs.declared.reason.Reason.{Reason}
use Rattle.auc_rows.specs.declared.arc.ShortArc.{ShortArc}
use Rattle.auc_rows.specs.Rows.{FlatTable, flat_row_of, scale_in}
use Rattle.auc_market.specs.declared.ending.Ending.{Ending}
use Rattle.auc_market.specs.declared.holdings.Holdings.{Holdings}
use Rattle.auc_letters.specs.declared.limits.TheConstants.{NOBODY}
use Rattle.auc_market.specs.Bid.{IsOffer}
use Rattle.auc_market.specs.Market.{holder_at, no_own, own_at}
use Rattle.auc_market.specs.Augmented.{IsAugmented}

-- the prices, the holder of each object, and the arc by which each person holds an object
pub record State : Type 0 where
  pub prices : List ℤ
  pub holders : List ℕ
  pub owns : List ShortArc

abbrev pub state : List ℤ → List ℕ → List ShortArc → State
state p h o = record { prices = p; holders = h; owns = o }

-- the state of a market
abbrev pub state_of : Holdings → State
state_of m = state m.prices.items m.holders.items m.owns.items

-- One bid: a free person offers by the rule and gets the object at that amount. The holder before is displaced.
pub record IsBidMade (r : FlatTable) (eps : ℤ) (s t : State) : Type 0 where
  pub person : ℕ
  pub known : person < length r.rows
  pub free : (own_at s.owns person).object ≡ NOBODY
  pub arc : ShortArc
  pub amount : ℤ
  pub offer : IsOffer (scale_in r) r.spread eps s.prices (flat_row_of r person) arc amount
  pub prices : t.prices ≡ set s.prices arc.object amount
  pub holders : t.holders ≡ set s.holders arc.object person
  pub owns : t.owns ≡ set (set s.owns person arc) (holder_at s.holders arc.object) no_own

-- an augmenting path, whole or in part, or nothing
pub record IsPathMade (r : FlatTable) (eps : ℤ) (s t : State) : Type 0 where
  pub person : ℕ
  pub free : ℕ
  pub augmented : IsAugmented r eps person s.prices t.prices s.holders t.holders s.owns t.owns free

-- this number of bids leads from one state to another, with paths between them
pub data AreMade (r : FlatTable) (eps : ℤ) (s : State) : ℕ → State → Type 0 where
  opens : (n : ℕ) (t : State) → n ≡ 0 → t ≡ s → AreMade r eps s n t
  bids : (m n : ℕ) (t u : State) → AreMade r eps s m t → IsBidMade r eps t u → n ≡ m + 1 → AreMade r eps s n u
  goes : (n : ℕ) (t u : State) → AreMade r eps s n t → IsPathMade r eps t u → AreMade r eps s n u

-- the bids made are those that were left before, less those that are left after
pub record AreSpent (r : FlatTable) (eps : ℤ) (before after : ℕ) (s t : State) : Type 0 where
  pub made : ℕ
  pub sum : made + after ≡ before
  pub run : AreMade r eps s made t

-- at most this number of bids
pub record AreMadeWithin (r : FlatTable) (eps : ℤ) (most : ℕ) (s t : State) : Type 0 where
  pub made : ℕ
  pub few : made ≤ most
  pub run : AreMade r eps s made t

-- the number of bids of a phase: exactly the limit where the bid limit has stopped it, and never more
abbrev pub AreCounted : FlatTable → ℤ → ℕ → Ending → State → State → Type 0
AreCounted r eps most Ending.Sold s t = AreMadeWithin r eps most s t
AreCounted r eps most (Ending.Stopped Reason.Bids) s t = AreMade r eps s most t
AreCounted r eps most (Ending.Stopped Reason.Ceiling) s t = AreMadeWithin r eps most s t
AreCounted r eps most (Ending.Stopped Reason.Posts) s t = ⊥
AreCounted r eps most (Ending.Stopped Reason.Trail) s t = ⊥
AreCounted r eps most (Ending.Stopped Reason.Mail) s t = ⊥
