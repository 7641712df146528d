use Rattle.std.proofs.Common.{◌≡◌, All}
use Rattle.auc_persons.specs.Candidates.{Kept}
use Rattle.auc_phases.specs.Shards.{IsPersonShard}
use Rattle.auc_threads.specs.declared.calls.Step.{Step}
use Rattle.auc_threads.specs.Buying.{Asks, asker}
use Rattle.auc_threads.specs.Taking.{GoesWithin}
use Rattle.auc_threads.specs.Worker.{round}
use Rattle.auc_threads.proofs.bidding.ask_all.Given as goal

abbrev pub invariant-loop : goal.invariant-loop
invariant-loop l = record {
  is : IsPersonShard l.task.rows.now l.task.limits.now.shards l.number l.buyer.shard;
  kept : Kept l.task.rows.now l.buyer.shard.copies l.buyer.lists;
  copies : l.buyer.shard.copies ≡ l.fn.buyer.shard.copies;
  asks : Asks (round l.task.rows.now l.task.eps) (asker l.fn.buyer.shard l.fn.bids.items) (asker l.buyer.shard l.bids.items) Step.On;
  reach : All (GoesWithin l.task.limits.now.shards) l.bids.items;
}
