use Rattle.auc_model.proofs.Ends.{all_schedule}
use Rattle.auc_model.proofs.Chosen.{holders_are_assignment}
use Rattle.auc_model.proofs.Theorems.{everyone_holds}
use Rattle.auc_machine.specs.Parts.{phase, world_of}
use Rattle.auc_machine.proofs.world.World.counted_holders_are_assigned.Goals as goal

pub returns-clause-everyone : goal.returns-clause-everyone
returns-clause-everyone c = everyone_holds (phase c.args.self.now) (world_of c.args.self.now) c.requires

pub returns-clause-assigned : goal.returns-clause-assigned
returns-clause-assigned c = λ p of all. holders_are_assignment p c.args.self.now.table c.args.self.now.shards c.args.self.now.eps (world_of c.args.self.now) of c.requires all

pub returns-clause-ended : goal.returns-clause-ended
returns-clause-ended c = λ all.
    let r = c.requires in
    all_schedule (phase c.args.self.now) r.start r.turns (world_of c.args.self.now) r.leads (λ e. absurd (cc (r.starts.no_end, e))) all
