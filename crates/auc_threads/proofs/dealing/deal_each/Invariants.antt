use Rattle.std.proofs.Common.{◌≡◌}
use Rattle.auc_threads.specs.declared.calls.Step.{Step}
use Rattle.auc_threads.specs.Dealing.{Deals}
use Rattle.auc_threads.specs.Worker.{box, taker}
use Rattle.auc_threads.proofs.dealing.deal_each.Given as goal

abbrev pub invariant-loop : goal.invariant-loop
invariant-loop g l = record {
  shards : l.shard.person_shards ≡ l.task.limits.now.shards;
  deals : Deals l.task.eps (box g.N.MailBrand.room l.number) (taker l.fn.shard l.fn.seat) l.said.items (taker l.shard l.seat) Step.On;
}
