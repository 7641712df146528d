use Rattle.std.proofs.Common.{◌≡◌}
use Rattle.auc_persons.specs.Candidates.{Kept}
use Rattle.auc_phases.specs.Shards.{IsPersonShard}
use Rattle.auc_threads.specs.declared.calls.Step.{Step}
use Rattle.auc_threads.specs.Buying.{Buys}
use Rattle.auc_threads.specs.Hearing.{Hears}
use Rattle.auc_threads.specs.Worker.{box, buyer_of, listener_of, rooms, round}
use Rattle.auc_threads.proofs.person_worker.buy.Given as goal

abbrev pub invariant-loop : goal.invariant-loop
invariant-loop g l = record {
  is : IsPersonShard l.run.task.rows.now l.run.task.limits.now.shards l.number l.worker.buyer.shard;
  kept : Kept l.run.task.rows.now l.worker.buyer.shard.copies l.worker.buyer.lists;
  hears : Hears (box g.P.MailBrand.room l.number) (listener_of (buyer_of l.fn.worker)) (listener_of (buyer_of l.worker)) ⊥;
  buys : Buys (round l.run.task.rows.now l.run.task.eps) (rooms g.O.MailBrand.room g.P.MailBrand.room g.H.MailBrand.room) l.number (buyer_of l.fn.worker) (buyer_of l.worker) Step.On;
  hub : l.worker.seats.hub ≡ l.fn.worker.seats.hub;
}
