-- The state of a phase: the prices, the holder of each object, and the arc by which each person holds an object.
use Rattle.std.specs.Prelude.{ℕ, ℤ, pos, ◌≡◌, ◌≢◌, ◌⊎◌, ◌<◌, ◌^◌, ◌+ℤ◌, ◌≤ℤ◌, ◌<ℤ◌, List, length, All, Contains, slice_index_or}
use Rattle.auc_graph.specs.Assignment.{total}
use Rattle.auc_graph.specs.Dual.{price_at}
use Rattle.auc_graph.specs.Price.{IsPrice}
use Rattle.auc_rows.specs.declared.arc.ShortArc.{ShortArc}
use Rattle.auc_rows.specs.Rows.{FlatTable, flat_row_of, scale_in}
use Rattle.auc_letters.specs.declared.limits.TheConstants.{NOBODY}
use Rattle.auc_market.specs.Scan.{short_value}

-- the holder of an object
abbrev pub holder_at : List ℕ → ℕ → ℕ
holder_at holders j = slice_index_or holders j NOBODY

-- the arc that stands for none, where a person holds no object
abbrev pub no_own : ShortArc
no_own = record { object = NOBODY; cost = pos 0 }

-- the arc by which a person holds an object
abbrev pub own_at : List ShortArc → ℕ → ShortArc
own_at owns i = slice_index_or owns i no_own

-- epsilon-complementary slackness of an arc of the person's row: no other arc of the row is better by more than eps
pub record IsSlack (r : FlatTable) (eps : ℤ) (prices : List ℤ) (i : ℕ) (s : ShortArc) : Type 0 where
  pub listed : Contains (flat_row_of r i) s
  pub least : All (λ b. short_value (scale_in r) prices s ≤ℤ (short_value (scale_in r) prices b +ℤ eps)) (flat_row_of r i)

-- each object without a holder has price 0
abbrev pub AreUnsold : List ℤ → List ℕ → Type 0
AreUnsold prices holders = (j : ℕ) → holder_at holders j ≡ NOBODY → price_at prices j ≡ pos 0

-- either there are as many objects as persons, or each object without a holder has price 0
abbrev pub AreSpare : FlatTable → List ℤ → List ℕ → Type 0
AreSpare r prices holders = (r.objects ≡ length r.rows) ⊎ AreUnsold prices holders

-- The invariant between two bids. Each object's holder has it, and each person with an object is its holder. Prices are
-- in range, and each holder's arc satisfies epsilon-complementary slackness.
pub record Stands (r : FlatTable) (eps : ℤ) (prices : List ℤ) (holders : List ℕ) (owns : List ShortArc) : Type 0 where
  pub prices_are : length prices ≡ r.objects
  pub holders_are : length holders ≡ r.objects
  pub owns_are : length owns ≡ length r.rows
  pub within : All IsPrice prices
  pub spare : AreSpare r prices holders
  pub held : (j : ℕ) → holder_at holders j ≢ NOBODY → (own_at owns (holder_at holders j)).object ≡ j
  pub holds : (i : ℕ) → (own_at owns i).object ≢ NOBODY → holder_at holders (own_at owns i).object ≡ i
  pub slack : (i : ℕ) → (own_at owns i).object ≢ NOBODY → IsSlack r eps prices i (own_at owns i)

-- each of the first n persons has an object
abbrev pub HaveObjects : ℕ → List ShortArc → Type 0
HaveObjects n owns = (i : ℕ) → i < n → (own_at owns i).object ≢ NOBODY

-- Each of the first n persons has an object, but for two different ones who have none: the next bidder, and one that
-- waits for a turn. NOBODY stands for either where there is none.
pub record HaveAllBut (n : ℕ) (owns : List ShortArc) (person other : ℕ) : Type 0 where
  pub none : (own_at owns person).object ≡ NOBODY
  pub waits : (own_at owns other).object ≡ NOBODY
  pub apart : person ≢ NOBODY → person ≢ other
  pub others : (i : ℕ) → i < n → i ≢ person → i ≢ other → (own_at owns i).object ≢ NOBODY

-- at these prices and this eps a free person's least bid for the best object would be above the greatest price
pub record IsAbove (r : FlatTable) (eps : ℤ) (prices : List ℤ) (owns : List ShortArc) : Type 0 where
  pub person : ℕ
  pub known : person < length r.rows
  pub free : (own_at owns person).object ≡ NOBODY
  pub arc : ShortArc
  pub listed : Contains (flat_row_of r person) arc
  pub best : All (λ b. short_value (scale_in r) prices arc ≤ℤ short_value (scale_in r) prices b) (flat_row_of r person)
  pub above : pos (2 ^ 61) <ℤ (price_at prices arc.object +ℤ eps)

-- no price is lower than before
abbrev pub AreHigher : List ℤ → List ℤ → Type 0
AreHigher prices new = (k : ℕ) → price_at prices k ≤ℤ price_at new k

-- The result of an awarded bid: the bidder has an object, the displaced holder has none, and the sum of the prices has
-- risen.
pub record IsAwarded (r : FlatTable) (eps : ℤ) (person : ℕ) (prices new : List ℤ) (sold : List ℕ)
    (owns left : List ShortArc) (displaced : ℕ) : Type 0 where
  pub stands : Stands r eps new sold left
  pub more : (total prices +ℤ pos 1) ≤ℤ total new
  pub none : (own_at left displaced).object ≡ NOBODY
  pub but : (n other : ℕ) → HaveAllBut n owns person other → HaveAllBut n left displaced other
  pub below : displaced ≢ NOBODY → displaced < length r.rows
  pub higher : AreHigher prices new

-- the result of a bid above the greatest price: nothing has changed
pub record IsTooHigh (r : FlatTable) (eps : ℤ) (prices new : List ℤ) (holders sold : List ℕ) (owns left : List ShortArc) : Type 0 where
  pub prices_are : new ≡ prices
  pub holders_are : sold ≡ holders
  pub owns_are : left ≡ owns
  pub above : IsAbove r eps prices owns
