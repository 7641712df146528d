use Rattle.std.proofs.Common.{rules, arith, ◌≡◌, ◌<◌}
use Rattle.auc_threads.proofs.DealingLaws.{deals_reach, deals_shape}
use Rattle.auc_threads.proofs.object_worker.serve.Goals as goal

pub say-posted-requires : goal.say-posted-requires
say-posted-requires g c =
    let same : c.as_slice.result.now ≡ c.deal_next-took.new.said.items = search rules in
    let some : 0 < c.args.run.now.task.limits.now.shards = omega (arith, c.args.run.now.task.limits_are.world.some) in
    rw same (deals_reach c.args.run.now.task.limits.now.shards _ _ _ _ _ _ _ _ _ c.requires.shards some c.deal_next-took.ensures.deals)

pub returns-then-ne-clause-shape : goal.returns-then-ne-clause-shape
returns-then-ne-clause-shape g c = deals_shape _ _ _ _ _ _ _ _ _ c.deal_next-took.ensures.deals

pub returns-clause-shape : goal.returns-clause-shape
returns-clause-shape g c = deals_shape _ _ _ _ _ _ _ _ _ c.deal_next-took.ensures.deals
