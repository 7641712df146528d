-- The value of an arc at prices: its reduced cost, but for the person's dual.
use Rattle.std.specs.Prelude.{ℕ, ℤ, ◌+ℤ◌, ◌*ℤ◌}

-- the scaled cost plus the price of the object; less is better
abbrev pub value_at : ℤ → (ℕ → ℤ) → ℤ → ℕ → ℤ
value_at scale price cost object = (scale *ℤ cost) +ℤ price object
