-- Packed objects of a shard: their prices and holders after one more, or after one is replaced.
use Rattle.std.proofs.Common.{◌≡◌, ℕ, List, map, length, set, sym, ap, ◌∙◌, Option}
use Rattle.std.specs.Prelude.{ℤ}
use Rattle.std.proofs.lemmas.List.{map-set, length-map}
use Rattle.auc_letters.specs.declared.state.Held.{Held}
use Rattle.auc_objects.specs.declared.packed_sale.PackedSale.{PackedSale}
use Rattle.auc_objects.specs.PackedSales.{holder_in, price_in}

pub prices_set : (sales : List PackedSale) (i : ℕ) (l : PackedSale) (price : ℤ) → price_in l ≡ price → map price_in (set sales i l) ≡ set (map price_in sales) i price
prices_set sales i l price e = map-set price_in sales i l ∙ ap (set (map price_in sales) i) e

pub holders_set : (sales : List PackedSale) (i : ℕ) (l : PackedSale) (holder : Option Held) → holder_in l ≡ holder → map holder_in (set sales i l) ≡ set (map holder_in sales) i holder
holders_set sales i l holder e = map-set holder_in sales i l ∙ ap (set (map holder_in sales) i) e

-- each has a price and a holder or none
pub as_many : (sales : List PackedSale) → length (map holder_in sales) ≡ length (map price_in sales)
as_many sales = length-map sales holder_in ∙ sym (length-map sales price_in)
