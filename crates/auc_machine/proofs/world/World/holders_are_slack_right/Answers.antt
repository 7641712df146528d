use Rattle.auc_model.proofs.Theorems.{counted_le, holders_slack, of_every_schedule}
use Rattle.auc_machine.specs.Parts.{phase, world_of}
use Rattle.auc_machine.proofs.world.World.holders_are_slack_right.Goals as goal

pub returns : goal.returns
returns c =
    let g = phase c.args.self.now in
    let v = world_of c.args.self.now in
    let r = c.requires in
    let all = of_every_schedule g v r in
    record {
      copies_low = all.copies_low;
      held_once = all.held_once;
      slack = holders_slack g v r;
      counted = (counted_le g v r).0;
    }
