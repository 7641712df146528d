-- Warm starts: the prices that a run may start from, and what its opening leaves of them.
use Rattle.std.specs.Prelude.{ℕ, ℤ, pos, ◌≡◌, ◌⊎◌, ◌^◌, List, length, All}
use Rattle.auc_graph.specs.Dual.{price_at}
use Rattle.auc_graph.specs.Price.{IsPrice}
use Rattle.auc_rows.specs.declared.arc.ShortArc.{ShortArc}
use Rattle.auc_rows.specs.Rows.{FlatTable}
use Rattle.auc_market.specs.Market.{Stands}

-- a price for each object
pub record ArePricesOf (r : FlatTable) (prices : List ℤ) : Type 0 where
  pub each : length prices ≡ r.objects
  pub within : All IsPrice prices

-- each price has stayed, or is 0
abbrev pub AreKept : List ℤ → List ℤ → Type 0
AreKept prices new = (j : ℕ) → (price_at new j ≡ price_at prices j) ⊎ (price_at new j ≡ pos 0)

-- What the opening leaves of start prices: all of them where there are as many objects as persons, else each price or
-- 0.
pub record AreOpened (objects persons : ℕ) (start begun : List ℤ) : Type 0 where
  pub each : length begun ≡ length start
  pub same : objects ≡ persons → begun ≡ start
  pub kept : AreKept start begun

-- an eps so large that the values of no two arcs of a person differ by more
abbrev pub any_eps : ℤ
any_eps = pos (2 ^ 62)

-- While persons take objects at start prices: each price is the start's or 0, and the start's if there are as many
-- objects as persons. Nothing is known of slackness.
pub record AreSeated (r : FlatTable) (start prices : List ℤ) (holders : List ℕ) (owns : List ShortArc) : Type 0 where
  pub stands : Stands r any_eps prices holders owns
  pub kept : AreKept start prices
  pub same : r.objects ≡ length r.rows → prices ≡ start
