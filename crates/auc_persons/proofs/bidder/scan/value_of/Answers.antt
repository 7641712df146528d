use Rattle.std.proofs.Common.{ℤ, pos, ◌≡◌, ◌^◌, ◌≤ℤ◌, arith, refl, w32, w64}
use Rattle.std.specs.Prelude.{◌+ℤ◌, ◌*ℤ◌, FitsSigned, neg_ℤ}
use Rattle.std.proofs.lemmas.Int.{ints, to_z-of_z}
use Rattle.auc_persons.proofs.bidder.scan.value_of.Goals as goal
use Rattle.auc_graph.proofs.ValueBounds.{product_below, product_fits, value_fits, value_high, value_low}

wide : (z : ℤ) → neg_ℤ (pos (10 ^ 9)) ≤ℤ z → z ≤ℤ pos (10 ^ 9) → FitsSigned w64 z
wide z low high = omega (arith, ints, low, high)

pub returns-clause-is : goal.returns-clause-is
returns-clause-is c =
    let f0 : FitsSigned w32 c.args.cost = c.ranges.cost in
    let f1 : FitsSigned w64 c.args.scale = c.ranges.scale in
    let f3 : FitsSigned w64 c.args.price = c.ranges.price in
    let from : c.from.result ≡ c.args.cost = simp to_z-of_z at c.from.ensures in
    let below = product_below c.args.scale c.args.cost c.requires.scale_low c.requires.scale_high c.requires.cost_low c.requires.cost_high in
    let f2 : FitsSigned w64 c.args.cost = wide c.args.cost c.requires.cost_low c.requires.cost_high in
    let f4 : FitsSigned w64 (c.args.scale *ℤ c.args.cost) = product_fits c.args.scale c.args.cost below in
    let f5 : FitsSigned w64 (c.args.scale *ℤ c.args.cost +ℤ c.args.price) = value_fits c.args.scale c.args.cost c.args.price below c.requires.price in
    rw from (simp to_z-of_z refl)

pub returns-clause-low : goal.returns-clause-low
returns-clause-low c =
    let f0 : FitsSigned w32 c.args.cost = c.ranges.cost in
    let f1 : FitsSigned w64 c.args.scale = c.ranges.scale in
    let f3 : FitsSigned w64 c.args.price = c.ranges.price in
    let from : c.from.result ≡ c.args.cost = simp to_z-of_z at c.from.ensures in
    let below = product_below c.args.scale c.args.cost c.requires.scale_low c.requires.scale_high c.requires.cost_low c.requires.cost_high in
    let f2 : FitsSigned w64 c.args.cost = wide c.args.cost c.requires.cost_low c.requires.cost_high in
    let f4 : FitsSigned w64 (c.args.scale *ℤ c.args.cost) = product_fits c.args.scale c.args.cost below in
    let f5 : FitsSigned w64 (c.args.scale *ℤ c.args.cost +ℤ c.args.price) = value_fits c.args.scale c.args.cost c.args.price below c.requires.price in
    rw from (simp to_z-of_z (value_low c.args.scale c.args.cost c.args.price below c.requires.price))

pub returns-clause-high : goal.returns-clause-high
returns-clause-high c =
    let f0 : FitsSigned w32 c.args.cost = c.ranges.cost in
    let f1 : FitsSigned w64 c.args.scale = c.ranges.scale in
    let f3 : FitsSigned w64 c.args.price = c.ranges.price in
    let from : c.from.result ≡ c.args.cost = simp to_z-of_z at c.from.ensures in
    let below = product_below c.args.scale c.args.cost c.requires.scale_low c.requires.scale_high c.requires.cost_low c.requires.cost_high in
    let f2 : FitsSigned w64 c.args.cost = wide c.args.cost c.requires.cost_low c.requires.cost_high in
    let f4 : FitsSigned w64 (c.args.scale *ℤ c.args.cost) = product_fits c.args.scale c.args.cost below in
    let f5 : FitsSigned w64 (c.args.scale *ℤ c.args.cost +ℤ c.args.price) = value_fits c.args.scale c.args.cost c.args.price below c.requires.price in
    rw from (simp to_z-of_z (value_high c.args.scale c.args.cost c.args.price below c.requires.price))
