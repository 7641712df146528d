use Rattle.auc_machine.proofs.world.World.take_turn.Goals as goal

pub returns-in-Bid-clause-turn : goal.returns-in-Bid-clause-turn
returns-in-Bid-clause-turn c = rw c.in-Bid.is c.bid.ensures.turn

pub returns-in-PersonPost-clause-turn : goal.returns-in-PersonPost-clause-turn
returns-in-PersonPost-clause-turn c = rw c.in-PersonPost.is c.person_post.ensures.turn

pub returns-in-ObjectPost-clause-turn : goal.returns-in-ObjectPost-clause-turn
returns-in-ObjectPost-clause-turn c = rw c.in-ObjectPost.is c.object_post.ensures.turn

pub returns-in-PersonTake-clause-turn : goal.returns-in-PersonTake-clause-turn
returns-in-PersonTake-clause-turn c = rw c.in-PersonTake.is c.person_take.ensures.turn

pub returns-in-ObjectTake-clause-turn : goal.returns-in-ObjectTake-clause-turn
returns-in-ObjectTake-clause-turn c = rw c.in-ObjectTake.is c.object_take.ensures.turn

pub returns-in-HubTake-clause-turn : goal.returns-in-HubTake-clause-turn
returns-in-HubTake-clause-turn c = rw c.in-HubTake.is c.hub_take.ensures.turn

pub returns-in-HubClose-clause-turn : goal.returns-in-HubClose-clause-turn
returns-in-HubClose-clause-turn c = rw c.in-HubClose.is c.hub_close.ensures.turn
