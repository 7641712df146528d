use Rattle.auc_persons.proofs.Shortlists.{kept_rises}
use Rattle.auc_persons.specs.Candidates.{Kept}
use Rattle.auc_world.proofs.single_shard.kept.SingleShard.run.Goals as goal

pub loop-world-preserved : goal.loop-world-preserved
loop-world-preserved c =
    let kept : Kept c.args.task.now.table c.trade.new.self.copies c.trade.new.bidder = c.in_default.ensures.kept in
    record {
      going = c.hear.ensures.going;
      kept = kept_rises c.args.task.now.table c.trade.new.self.copies c.hear.new.self.copies c.trade.new.bidder c.hear.ensures.rises kept;
    }
