use Rattle.std.proofs.Common.{get_or, map, rules, arith, w64, pos}
use Rattle.std.specs.Prelude.{FitsSigned as SFits}
use Rattle.std.proofs.lemmas.Int.{ints}
use Rattle.std.proofs.lemmas.List.{get_or-map, length-map}
use Rattle.auc_graph.proofs.BoundLaws.{total_more}
use Rattle.auc_dense.specs.Tried.{no_pick, pick_worth}
use Rattle.auc_dense.proofs.bounding.lower_of.Goals as goal

pub loop-pick-preserved : goal.loop-pick-preserved
loop-pick-preserved c =
    let below = c.loop-pick-test.true in
    let many = length-map c.args.bests.now (pick_worth c.args.prices.now) in
    let more = total_more (map (pick_worth c.args.prices.now) c.args.bests.now) c.loop-pick.pick-index (pos 0) (omega (arith, below, many)) in
    let here = get_or-map (pick_worth c.args.prices.now) c.args.bests.now c.loop-pick.pick-index no_pick (pos 0) below in
    let cost_fits : SFits w64 (get_or c.args.bests.now c.loop-pick.pick-index no_pick).cost = search rules in
    let price_fits : SFits w64 (get_or c.args.prices.now (get_or c.args.bests.now c.loop-pick.pick-index no_pick).object (pos 0)) = search rules in
    record {
      so_far = omega (arith, ints, more, here, cost_fits, price_fits);
      low = omega (arith, ints, cost_fits, price_fits);
      high = omega (arith, ints, cost_fits, price_fits);
    }

pub loop-price-preserved : goal.loop-price-preserved
loop-price-preserved c =
    let more = total_more c.args.prices.now c.loop-price.price-index (pos 0) c.loop-price-test.true in
    let fits : SFits w64 (get_or c.args.prices.now c.loop-price.price-index (pos 0)) = search rules in
    record {
      so_far = omega (arith, ints, more, fits);
      low = omega (arith, ints, fits);
      high = omega (arith, ints, fits);
    }
