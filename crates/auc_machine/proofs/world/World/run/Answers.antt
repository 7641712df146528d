use Rattle.std.proofs.Common.{◌≡◌, ◌∙◌, None, arith}
use Rattle.std.proofs.lemmas.Grind.{common_steps}
use Rattle.auc_machine.specs.Parts.{world_of}
use Rattle.auc_machine.proofs.RoundLaws.{run_less, run_more, run_rests, run_still_ends}
use Rattle.auc_machine.proofs.world.World.run.Goals as goal

pub returns-then-not-round-clause-rounds : goal.returns-then-not-round-clause-rounds
returns-then-not-round-clause-rounds c =
    let none : (world_of c.loop-self.self).end ≡ None = grind (arith, common_steps) in
    run_more c.args.self.now c.loop-self.self c.round.new.self _ c.loop-self.invariant.rounds c.loop-self.invariant.phase none c.round.ensures.plays

pub returns-then-not-round-clause-end : goal.returns-then-not-round-clause-end
returns-then-not-round-clause-end c =
    let none : (world_of c.loop-self.self).end ≡ None = grind (arith, common_steps) in
    run_still_ends c.loop-self.self c.round.new.self _ none c.round.ensures.plays c.if-not-round.true

pub returns-then-not-round-clause-rests : goal.returns-then-not-round-clause-rests
returns-then-not-round-clause-rests c = run_rests c.loop-self.self c.round.new.self _ c.round.ensures.phase c.round.ensures.plays c.if-not-round.true

pub loop-self-smaller : goal.loop-self-smaller
loop-self-smaller c =
    let none : (world_of c.loop-self.self).end ≡ None = grind (arith, common_steps) in
    run_less c.loop-self.self c.round.new.self _ c.round.ensures.phase none c.round.ensures.plays c.if-not-round.false

pub loop-self-preserved : goal.loop-self-preserved
loop-self-preserved c =
    let none : (world_of c.loop-self.self).end ≡ None = grind (arith, common_steps) in
    record {
      rounds = run_more c.args.self.now c.loop-self.self c.round.new.self _ c.loop-self.invariant.rounds c.loop-self.invariant.phase none c.round.ensures.plays;
      phase = c.round.ensures.phase ∙ c.loop-self.invariant.phase;
    }
