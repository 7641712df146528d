use Rattle.std.proofs.Common.{◌*◌, ◌<◌, arith}
use Rattle.std.proofs.lemmas.Grind.{common_steps}
use Rattle.auc_machine.proofs.PostingLaws.{left_keeps, post_fits, posts_left, posts_nothing, posts_stays}
use Rattle.auc_machine.proofs.world.World.post_first.Goals as goal

pub post_first-requires-clause-fits : goal.post_first-requires-clause-fits
post_first-requires-clause-fits c =
    let known : c.args.sender < 2 * c.self.inside.shards = grind (arith, common_steps) in
    post_fits _ c.self.invariant.0 c.args.sender known

pub invariant_of-self-in-Left : goal.invariant_of-self-in-Left
invariant_of-self-in-Left c =
    let known : c.args.sender < 2 * c.self.inside.shards = grind (arith, common_steps) in
    (left_keeps _ c.self.invariant.0 c.args.sender known c.post_first.new.self c.in-Left.ensures, c.self.invariant.1)

pub returns-in-Left-clause-turn : goal.returns-in-Left-clause-turn
returns-in-Left-clause-turn c = rw (← c.self.view_is) (λ h from known. posts_left _ c.args.sender h from known c.post_first.new.self c.self.invariant.0 c.in-Left.ensures)

pub returns-in-Stays-clause-turn : goal.returns-in-Stays-clause-turn
returns-in-Stays-clause-turn c = rw (← c.self.view_is) (λ h from known. posts_stays _ c.args.sender h from known c.post_first.new.self c.end_with.new.self c.in-Stays.why c.in-Stays.ensures c.end_with.ensures)

pub returns-in-Nothing-clause-turn : goal.returns-in-Nothing-clause-turn
returns-in-Nothing-clause-turn c = rw (← c.self.view_is) (λ h from known. posts_nothing _ c.args.sender h from known c.post_first.new.self c.in-Nothing.ensures)
