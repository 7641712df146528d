-- The range of eps, from 1 to 2^60 in scaled costs, and that of the amount of a bid.
use Rattle.std.specs.Prelude.{◌^◌, ◌&&◌, ℤ, pos, ◌≤ℤ◌, int_le, Bool}

pub record IsEps (eps : ℤ) : Type 0 where
  pub low : pos 1 ≤ℤ eps
  pub high : eps ≤ℤ pos (2 ^ 60)

-- the amount is in the range of prices, as a test
abbrev pub is_amount : ℤ → Bool
is_amount amount = int_le (pos 0) amount && int_le amount (pos (2 ^ 61))
