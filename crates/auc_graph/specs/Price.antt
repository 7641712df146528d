-- Prices of objects, copies of prices and amounts of bids: scaled costs.
use Rattle.std.specs.Prelude.{◌^◌, ℤ, pos, ◌≤ℤ◌}

-- from 0 to 2^61
pub record IsPrice (price : ℤ) : Type 0 where
  pub low : pos 0 ≤ℤ price
  pub high : price ≤ℤ pos (2 ^ 61)
