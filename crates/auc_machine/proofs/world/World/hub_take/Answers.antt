use Rattle.auc_machine.proofs.HubLaws.{hub_heard}
use Rattle.auc_machine.proofs.world.World.hub_take.Goals as goal

pub returns-clause-turn : goal.returns-clause-turn
returns-clause-turn c = hub_heard c.args.self.now _ c.self.view_is c.in-Some.letter c.take.new.self c.hear.new.self c.in-Some.ensures.some c.take.ensures.rest (rw c.persons.ensures.persons at c.hear.ensures)
