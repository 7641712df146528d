use Rattle.auc_phases.specs.Shards.{IsPersonShard}
use Rattle.auc_threads.specs.declared.calls.Step.{Step}
use Rattle.auc_threads.specs.Buying.{Listens}
use Rattle.auc_threads.specs.Hearing.{Hears}
use Rattle.auc_threads.specs.Worker.{box, round, taker}
use Rattle.auc_threads.proofs.hearing.hear_each.Given as goal

abbrev pub invariant-loop : goal.invariant-loop
invariant-loop g l = record {
  is : IsPersonShard l.task.rows.now l.task.limits.now.shards l.number l.shard;
  hears : Hears (box g.N.MailBrand.room l.number) (taker l.fn.shard l.fn.seat) (taker l.shard l.seat) ⊥;
  listens : Listens (round l.task.rows.now l.task.eps) (box g.N.MailBrand.room l.number) (taker l.fn.shard l.fn.seat) (taker l.shard l.seat) Step.On;
}
