use Rattle.std.proofs.Common.{arith, ◌<◌}
use Rattle.std.proofs.lemmas.Grind.{common_steps}
use Rattle.auc_model.specs.Mails.{ObjectShard}
use Rattle.auc_machine.specs.Parts.{MayAnswer, OwnsObject}
use Rattle.auc_machine.proofs.PostingLaws.{put_seen}
use Rattle.auc_machine.proofs.SellingLaws.{price_told_out}
use Rattle.auc_machine.proofs.world.World.tell.Goals as goal

pub returns-clause-turn : goal.returns-clause-turn
returns-clause-turn c =
    let may : MayAnswer c.args.self.now c.args.shard = grind (arith, common_steps) in
    let to : c.args.to < c.args.self.now.shards = grind (arith, common_steps) in
    let owns : OwnsObject c.args.self.now c.args.shard c.args.object = grind (arith, common_steps) in
    price_told_out c.args.self.now c.args.shard c.may_answer.ensures.sound may c.args.object c.args.to _ c.price_letter-out.result to owns c.price_letter-out.ensures
    (put_seen c.args.self.now _ c.self.view_is c.self.invariant.0 c.put.new.self (ObjectShard c.args.shard) _ may.known c.put.ensures)
