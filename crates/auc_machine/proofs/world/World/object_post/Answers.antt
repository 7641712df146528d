use Rattle.std.proofs.Common.{sym, ap, ◌+◌, ◌<◌, arith}
use Rattle.std.proofs.lemmas.Grind.{common_steps}
use Rattle.auc_model.specs.Mails.{ObjectShard}
use Rattle.auc_machine.proofs.world.World.object_post.Goals as goal

pub returns-clause-turn : goal.returns-clause-turn
returns-clause-turn c =
    let known : c.args.shard < c.args.self.now.shards = grind (arith, common_steps) in
    c.post_first.ensures.turn (ObjectShard c.args.shard) (sym (ap (λ n. n + c.args.shard) c.shards.ensures.is)) known
