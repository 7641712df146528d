use Rattle.std.proofs.Common.{arith, ◌≢◌, None}
use Rattle.std.proofs.lemmas.Grind.{common_steps}
use Rattle.auc_machine.specs.Mails.{named}
use Rattle.auc_machine.specs.Parts.{IsOpenBox, world_of}
use Rattle.auc_machine.proofs.HubLaws.{box_closed}
use Rattle.auc_machine.proofs.world.World.hub_close.Goals as goal

pub returns-clause-turn : goal.returns-clause-turn
returns-clause-turn c =
    let ends : (world_of c.args.self.now).end ≢ None = grind (arith, common_steps) in
    let box : IsOpenBox (named c.args.self.now.mails c.args.mail) c.args.at = grind (arith, common_steps) in
    box_closed c.args.self.now _ c.self.view_is c.close.new.self c.args.mail c.args.at ends box c.close.ensures.step c.close.ensures.rest
