use Rattle.std.proofs.Common.{◌<◌, arith}
use Rattle.std.proofs.lemmas.Grind.{common_steps}
use Rattle.auc_machine.proofs.HearingLaws.{letter_faulty, letter_heard}
use Rattle.auc_machine.proofs.world.World.person_take.Goals as goal

pub returns-in-Err-clause-turn : goal.returns-in-Err-clause-turn
returns-in-Err-clause-turn c =
    let known : c.args.shard < c.self.inside.shards = grind (arith, common_steps) in
    rw (← c.self.view_is) (letter_faulty _ c.args.shard c.self.invariant.0 known c.take.new.self c.end_with.new.self c.in-Some.letter c.in-Some.ensures.some c.take.ensures.rest c.hear.new.self c.in-Err.fault c.in-Err.ensures.heard c.hear.ensures.rest (rw c.reason_for.ensures at c.end_with.ensures))

pub returns-in_default-hear-clause-turn : goal.returns-in_default-hear-clause-turn
returns-in_default-hear-clause-turn c =
    let known : c.args.shard < c.self.inside.shards = grind (arith, common_steps) in
    rw (← c.self.view_is) (letter_heard _ c.args.shard c.self.invariant.0 known c.take.new.self c.hear.new.self c.in-Some.letter c.in-Some.ensures.some c.take.ensures.rest _ c.in_default-hear.ensures.heard c.hear.ensures.rest)
