-- The range of values.
use Rattle.std.proofs.Common.{◌≡◌, arith, length, List, subst, sym, pos, negsuc}
use Rattle.std.specs.Prelude.{All, ℤ, ◌*ℤ◌, ◌≤ℤ◌}
use Rattle.std.proofs.lemmas.Int.{ints}
use Rattle.std.proofs.lemmas.List.Elements.{All-get_or}
use Rattle.std.proofs.Math.IntN.{pos-*ℤ-pos}
use Rattle.auc_graph.specs.Dual.{price_at}
use Rattle.auc_graph.specs.Price.{IsPrice}
use Rattle.auc_rows.specs.declared.arc.ShortArc.{ShortArc}
use Rattle.auc_rows.specs.Rows.{FlatTable, IsFlatTable, IsShort, scale_in}
use Rattle.auc_market.specs.Scan.{IsValue, short_value}
use Rattle.auc_graph.proofs.ValueBounds.{product_below, value_low, value_high}

pub product_low : (s d : ℤ) → pos 0 ≤ℤ s → pos 0 ≤ℤ d → pos 0 ≤ℤ (s *ℤ d)
product_low (pos m) (pos n) a b = subst (λ (z : ℤ). pos 0 ≤ℤ z) (sym (pos-*ℤ-pos m n)) (omega (arith, ints))
product_low (pos m) (negsuc n) a b = absurd (omega (arith, ints, b))
product_low (negsuc m) d a b = absurd (omega (arith, ints, a))

-- the spread of all costs, scaled
pub scaled_low : (r : FlatTable) → IsFlatTable r → pos 0 ≤ℤ (scale_in r *ℤ r.spread)
scaled_low r sound = product_low (scale_in r) r.spread (omega (arith, ints)) sound.low

-- the value of an arc
pub value_in : (r : FlatTable) (prices : List ℤ) (s : ShortArc) → IsFlatTable r → All IsPrice prices → length prices ≡ r.objects → IsShort r.objects s → IsValue (short_value (scale_in r) prices s)
value_in r prices s sound within many is =
    let p = All-get_or IsPrice prices s.object (pos 0) (let o = is.object in omega (arith, o, many)) within in
    let m = sound.most in
    let below = product_below (scale_in r) s.cost (omega (arith, ints)) (omega (arith, ints, m)) is.low is.high in
    record { low = value_low (scale_in r) s.cost (price_at prices s.object) below p; high = value_high (scale_in r) s.cost (price_at prices s.object) below p }
