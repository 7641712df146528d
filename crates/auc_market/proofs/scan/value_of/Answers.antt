use Rattle.std.proofs.Common.{ℤ, pos, ◌≡◌, ◌^◌, ◌≤ℤ◌, arith, refl, rules, w32, w64}
use Rattle.std.specs.Prelude.{◌+ℤ◌, ◌*ℤ◌, FitsSigned, neg_ℤ}
use Rattle.std.proofs.lemmas.Int.{ints, to_z-of_z}
use Rattle.std.proofs.lemmas.List.Elements.{All-get_or}
use Rattle.auc_graph.specs.Dual.{price_at}
use Rattle.auc_graph.specs.Price.{IsPrice}
use Rattle.auc_market.proofs.scan.value_of.Goals as goal
use Rattle.auc_graph.proofs.ValueBounds.{price_fits, product_below, product_fits, value_fits, value_high, value_low}

wide : (z : ℤ) → neg_ℤ (pos (10 ^ 9)) ≤ℤ z → z ≤ℤ pos (10 ^ 9) → FitsSigned w64 z
wide z low high = omega (arith, ints, low, high)

pub overflow_mul-result : goal.overflow_mul-result
overflow_mul-result c =
    let f0 : FitsSigned w32 c.args.arc.cost = search rules in
    let f1 : FitsSigned w64 c.args.scale = c.ranges.scale in
    let from : c.from.result ≡ c.args.arc.cost = simp to_z-of_z at c.from.ensures in
    let low = c.requires.arc.low in
    let high = c.requires.arc.high in
    let f2 : FitsSigned w64 c.args.arc.cost = wide c.args.arc.cost low high in
    let below = product_below c.args.scale c.args.arc.cost c.requires.scale.low c.requires.scale.high low high in
    let f4 : FitsSigned w64 (c.args.scale *ℤ c.args.arc.cost) = product_fits c.args.scale c.args.arc.cost below in
    rw from (simp to_z-of_z f4)

pub overflow_add-result : goal.overflow_add-result
overflow_add-result c =
    let f0 : FitsSigned w32 c.args.arc.cost = search rules in
    let f1 : FitsSigned w64 c.args.scale = c.ranges.scale in
    let from : c.from.result ≡ c.args.arc.cost = simp to_z-of_z at c.from.ensures in
    let low = c.requires.arc.low in
    let high = c.requires.arc.high in
    let f2 : FitsSigned w64 c.args.arc.cost = wide c.args.arc.cost low high in
    let below = product_below c.args.scale c.args.arc.cost c.requires.scale.low c.requires.scale.high low high in
    let f4 : FitsSigned w64 (c.args.scale *ℤ c.args.arc.cost) = product_fits c.args.scale c.args.arc.cost below in
    let price = All-get_or IsPrice c.args.prices.now c.args.arc.object (pos 0) c.requires.arc.object c.requires.prices in
    let f3 : FitsSigned w64 (price_at c.args.prices.now c.args.arc.object) = price_fits (price_at c.args.prices.now c.args.arc.object) price in
    let f5 : FitsSigned w64 (c.args.scale *ℤ c.args.arc.cost +ℤ price_at c.args.prices.now c.args.arc.object) = value_fits c.args.scale c.args.arc.cost (price_at c.args.prices.now c.args.arc.object) below price in
    rw from (simp to_z-of_z f5)

pub returns-clause-is : goal.returns-clause-is
returns-clause-is c =
    let f0 : FitsSigned w32 c.args.arc.cost = search rules in
    let f1 : FitsSigned w64 c.args.scale = c.ranges.scale in
    let from : c.from.result ≡ c.args.arc.cost = simp to_z-of_z at c.from.ensures in
    let low = c.requires.arc.low in
    let high = c.requires.arc.high in
    let f2 : FitsSigned w64 c.args.arc.cost = wide c.args.arc.cost low high in
    let below = product_below c.args.scale c.args.arc.cost c.requires.scale.low c.requires.scale.high low high in
    let f4 : FitsSigned w64 (c.args.scale *ℤ c.args.arc.cost) = product_fits c.args.scale c.args.arc.cost below in
    let price = All-get_or IsPrice c.args.prices.now c.args.arc.object (pos 0) c.requires.arc.object c.requires.prices in
    let f3 : FitsSigned w64 (price_at c.args.prices.now c.args.arc.object) = price_fits (price_at c.args.prices.now c.args.arc.object) price in
    let f5 : FitsSigned w64 (c.args.scale *ℤ c.args.arc.cost +ℤ price_at c.args.prices.now c.args.arc.object) = value_fits c.args.scale c.args.arc.cost (price_at c.args.prices.now c.args.arc.object) below price in
    rw from (simp to_z-of_z refl)

pub returns-clause-range : goal.returns-clause-range
returns-clause-range c =
    let f0 : FitsSigned w32 c.args.arc.cost = search rules in
    let f1 : FitsSigned w64 c.args.scale = c.ranges.scale in
    let from : c.from.result ≡ c.args.arc.cost = simp to_z-of_z at c.from.ensures in
    let low = c.requires.arc.low in
    let high = c.requires.arc.high in
    let f2 : FitsSigned w64 c.args.arc.cost = wide c.args.arc.cost low high in
    let below = product_below c.args.scale c.args.arc.cost c.requires.scale.low c.requires.scale.high low high in
    let f4 : FitsSigned w64 (c.args.scale *ℤ c.args.arc.cost) = product_fits c.args.scale c.args.arc.cost below in
    let price = All-get_or IsPrice c.args.prices.now c.args.arc.object (pos 0) c.requires.arc.object c.requires.prices in
    let f3 : FitsSigned w64 (price_at c.args.prices.now c.args.arc.object) = price_fits (price_at c.args.prices.now c.args.arc.object) price in
    let f5 : FitsSigned w64 (c.args.scale *ℤ c.args.arc.cost +ℤ price_at c.args.prices.now c.args.arc.object) = value_fits c.args.scale c.args.arc.cost (price_at c.args.prices.now c.args.arc.object) below price in
    rw from (simp to_z-of_z (record { low = value_low c.args.scale c.args.arc.cost (price_at c.args.prices.now c.args.arc.object) below price; high = value_high c.args.scale c.args.arc.cost (price_at c.args.prices.now c.args.arc.object) below price }))
