use Rattle.std.proofs.Common.{refl}
use Rattle.auc_machine.proofs.RoundLaws.{round_in_parts}
use Rattle.auc_machine.proofs.world.World.round.Goals as goal

pub returns-clause-plays : goal.returns-clause-plays
returns-clause-plays c =
    round_in_parts c.args.self.now c.bid_all-bids.new.self c.answer_all-answers.new.self c.hear_all-hearings.new.self c.hub_take.new.self _ _ _ _ _ _ _ c.hub_take.result c.bid_all-bids.ensures.plays c.bid_all-bids.ensures.phase c.answer_all-answers.ensures.plays c.answer_all-answers.ensures.phase c.hear_all-hearings.ensures.plays c.hear_all-hearings.ensures.phase c.hub_take.ensures.turn c.has_moved-count.ensures refl refl refl
