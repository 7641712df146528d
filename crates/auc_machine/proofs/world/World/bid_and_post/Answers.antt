use Rattle.std.proofs.Common.{refl}
use Rattle.auc_model.specs.declared.turn.Turn.{Turn}
use Rattle.auc_machine.proofs.RoundLaws.{two_turns}
use Rattle.auc_machine.proofs.TurnByTurn.{same_phase}
use Rattle.auc_machine.proofs.world.World.bid_and_post.Goals as goal

pub returns-clause-plays : goal.returns-clause-plays
returns-clause-plays c =
    let p = c.args.self.now in
    two_turns p c.bid.new.self c.person_post.new.self (Turn.Bid c.args.shard) (Turn.PersonPost c.args.shard) c.bid.result c.person_post.result c.has_moved-bids.result c.has_moved-posts.result _
    c.bid.ensures.turn (same_phase p c.bid.new.self c.bid.ensures.phase) c.person_post.ensures.turn c.has_moved-bids.ensures c.has_moved-posts.ensures refl
