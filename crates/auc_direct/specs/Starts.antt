-- Prices from which a solve may start.
use Rattle.std.specs.Prelude.{ℤ, ◌≡◌, List, length, All}
use Rattle.auc_claim.specs.Start.{IsStartPrice}
use Rattle.auc_graph.specs.Problem.{Problem}

-- start prices: for each object a price from 0 to 2^60
pub record AreStartPrices (p : Problem) (start : List ℤ) : Type 0 where
  pub each : length start ≡ p.objects
  pub within : All IsStartPrice start
