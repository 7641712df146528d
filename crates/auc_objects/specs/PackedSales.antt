-- The packed form of an object in its shard: the price and the holder that it stands for.
use Rattle.std.specs.Prelude.{ℕ, ℤ, pos, negsuc, Option, Some, None}
use Rattle.auc_letters.specs.declared.state.Held.{Held}
use Rattle.auc_objects.specs.declared.packed_sale.PackedSale.{PackedSale}

-- a price is kept as it is, or as -1 minus the price
abbrev pub price_coded : ℤ → ℤ
price_coded (pos p) = pos p
price_coded (negsuc p) = pos p

-- the object has a holder exactly where the price is kept as it is
abbrev pub holder_coded : ℤ → ℕ → ℕ → Option Held
holder_coded (pos p) person arc = Some (record { person = person; arc = arc })
holder_coded (negsuc p) person arc = None

abbrev pub price_in : PackedSale → ℤ
price_in l = price_coded l.coded

abbrev pub holder_in : PackedSale → Option Held
holder_in l = holder_coded l.coded l.person l.arc
