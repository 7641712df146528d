use Rattle.std.proofs.Common.{refl, ◌<◌, arith}
use Rattle.std.proofs.lemmas.Grind.{common_steps}
use Rattle.auc_model.specs.Mails.{PersonShard}
use Rattle.auc_machine.proofs.world.World.person_post.Goals as goal

pub returns-clause-turn : goal.returns-clause-turn
returns-clause-turn c =
    let known : c.args.shard < c.args.self.now.shards = grind (arith, common_steps) in
    c.post_first.ensures.turn (PersonShard c.args.shard) refl known
