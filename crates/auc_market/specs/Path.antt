-- What an augmenting path does to prices, and what is taken back of it.
use Rattle.std.specs.Prelude.{ℕ, zero, suc, ℤ, pos, ◌≡◌, ◌≢◌, ◌⊎◌, ◌<◌, ◌^◌, ◌≤ℤ◌, List, length, set, All, slice_index_or}
use Rattle.auc_graph.specs.Dual.{price_at}
use Rattle.auc_graph.specs.Price.{IsPrice}
use Rattle.auc_rows.specs.declared.arc.ShortArc.{ShortArc}
use Rattle.auc_rows.specs.Rows.{FlatTable}
use Rattle.auc_letters.specs.declared.limits.TheConstants.{NOBODY}
use Rattle.auc_market.specs.declared.search.Rise.{Rise}
use Rattle.auc_market.specs.Market.{AreHigher, IsSlack, holder_at, own_at}

-- in place of a rise past the end of a list
abbrev pub no_rise : Rise
no_rise = record { object = 0; amount = pos 0 }

abbrev pub rise_at : List Rise → ℕ → Rise
rise_at rises m = slice_index_or rises m no_rise

-- a rise of one price: the object has a holder
pub record IsRise (prices : List ℤ) (holders : List ℕ) (rise : Rise) : Type 0 where
  pub known : rise.object < length prices
  pub held : holder_at holders rise.object ≢ NOBODY
  pub more : price_at prices rise.object ≤ℤ rise.amount
  pub most : rise.amount ≤ℤ pos (2 ^ 61)

-- each of these is such a rise
abbrev pub AreRises : List ℤ → List ℕ → List Rise → Type 0
AreRises prices holders rises = All (IsRise prices holders) rises

-- an object with a holder, and that of one of the first n rises
pub record IsAmong (holders : List ℕ) (rises : List Rise) (n k : ℕ) : Type 0 where
  pub held : holder_at holders k ≢ NOBODY
  pub place : ℕ
  pub below : place < n
  pub object : (rise_at rises place).object ≡ k

-- the prices after the first n of these rises: no price fell, and others than theirs have stayed
pub record AreRaised (prices new : List ℤ) (holders : List ℕ) (rises : List Rise) (n : ℕ) : Type 0 where
  pub many : length new ≡ length prices
  pub higher : AreHigher prices new
  pub within : All IsPrice prices → All IsPrice new
  pub each : (k : ℕ) → (price_at new k ≡ price_at prices k) ⊎ IsAmong holders rises n k

-- the prices once the first n of these are set again, the last one first
abbrev pub set_back : ℕ → List Rise → List ℤ → List ℤ
set_back zero rises prices = prices
set_back (suc n) rises prices = set_back n rises (set prices (rise_at rises n).object (rise_at rises n).amount)

-- if the person holds an object, its arc satisfies epsilon-complementary slackness
abbrev pub IsWithin : FlatTable → ℤ → List ℤ → List ShortArc → ℕ → Type 0
IsWithin r eps prices owns i = (own_at owns i).object ≢ NOBODY → IsSlack r eps prices i (own_at owns i)

-- the same of each holder of these objects
abbrev pub AreWithin : FlatTable → ℤ → List ℤ → List ℕ → List ShortArc → List Rise → Type 0
AreWithin r eps prices holders owns rises = All (λ (rise : Rise). IsWithin r eps prices owns (holder_at holders rise.object)) rises
