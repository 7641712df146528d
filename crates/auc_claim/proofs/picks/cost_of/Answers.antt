use Rattle.std.proofs.Common.{get_or, rules, arith, w64, pos}
use Rattle.std.specs.Prelude.{FitsSigned as SFits}
use Rattle.std.proofs.lemmas.Int.{ints}
use Rattle.auc_claim.proofs.CostSums.{cost_more}
use Rattle.auc_claim.proofs.picks.cost_of.Goals as goal

pub loop-pick-preserved : goal.loop-pick-preserved
loop-pick-preserved c =
    let more = cost_more c.args.choice.now c.loop-pick.pick-index (record { object = 0; cost = pos 0 }) c.loop-pick-test.true in
    let fits : SFits w64 (get_or c.args.choice.now c.loop-pick.pick-index (record { object = 0; cost = pos 0 })).cost = search rules in
    record {
      so_far = omega (arith, ints, more, fits);
      low = omega (arith, ints, fits);
      high = omega (arith, ints, fits);
    }
