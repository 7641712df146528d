use Rattle.std.proofs.Common.{◌<◌, ◌≤◌, arith, List, length, rules, w64, ◌∙◌}
use Rattle.std.specs.Prelude.{FitsSigned, ℤ}
use Rattle.std.proofs.lemmas.Int.{ints, to_z-of_z}
use Rattle.std.proofs.lemmas.List.{length-set}
use Rattle.auc_graph.specs.Price.{IsPrice}
use Rattle.auc_direct.proofs.AdoptLaws.{price_next, prices_all}
use Rattle.auc_direct.proofs.adopt.scaled_prices.Goals as goal

pub loop-object-preserved : goal.loop-object-preserved
loop-object-preserved c =
    let prices : List ℤ = c.loop-object.prices.items in
    let inv = c.loop-object.invariant in
    let price : ℤ = c.in-Some.price in
    let fits : FitsSigned w64 price = search rules in
    let low = simp to_z-of_z at c.if-price-lt0.false in
    let high = simp to_z-of_z at c.if-price-gt-MOST_PRICE.false in
    let is : IsPrice price = record { low = omega (arith, ints, low); high = omega (arith, ints, high) } in
    let room : c.loop-object.object < length prices = omega (arith, inv.many) in
    simp to_z-of_z (record {
      many = length-set prices c.loop-object.object price ∙ inv.many;
      within = price_next prices c.loop-object.object price room is inv.within;
    })

pub returns : goal.returns
returns c =
    let inv = c.loop-object.invariant in
    let over : length c.loop-object.prices.items ≤ c.loop-object.object = omega (arith, inv.many) in
    record { each = inv.many; within = prices_all c.loop-object.prices.items c.loop-object.object over inv.within }
