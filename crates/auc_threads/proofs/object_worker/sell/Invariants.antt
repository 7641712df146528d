use Rattle.std.proofs.Common.{◌≡◌}
use Rattle.auc_threads.specs.declared.calls.Step.{Step}
use Rattle.auc_threads.specs.Dealing.{Serves}
use Rattle.auc_threads.specs.Worker.{rooms, seller_of}
use Rattle.auc_threads.proofs.object_worker.sell.Given as goal

abbrev pub invariant-loop : goal.invariant-loop
invariant-loop g l = record {
  shards : l.worker.shard.person_shards ≡ l.run.task.limits.now.shards;
  serves : Serves l.run.task.eps (rooms g.O.MailBrand.room g.P.MailBrand.room g.H.MailBrand.room) l.number (seller_of l.fn.worker) (seller_of l.worker) Step.On;
}
