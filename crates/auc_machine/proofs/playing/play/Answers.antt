use Rattle.std.proofs.Common.{take, sym, subst, ◌∙◌}
use Rattle.auc_model.specs.Schedule.{Reached}
use Rattle.auc_model.specs.World.{Phase}
use Rattle.auc_model.proofs.Copies.{copy_schedule}
use Rattle.auc_model.proofs.Reached.{reached_on}
use Rattle.auc_model.proofs.Unheld.{unheld_schedule}
use Rattle.auc_machine.specs.Parts.{phase, world_of}
use Rattle.auc_machine.proofs.TurnByTurn.{same_phase, turn_more}
use Rattle.auc_machine.proofs.playing.play.Goals as goal

pub loop-turn-preserved : goal.loop-turn-preserved
loop-turn-preserved c =
    let before = c.loop-turn.invariant in
    record {
      schedule = turn_more c.args.world.now c.loop-turn.world c.turn.new.self c.args.turns.now c.loop-turn.turn-index _ c.turn.result before.schedule before.phase c.loop-turn-test.true c.turn.ensures.turn;
      phase = same_phase c.loop-turn.world c.turn.new.self c.turn.ensures.phase ∙ before.phase;
    }

pub returns-clause-copies : goal.returns-clause-copies
returns-clause-copies c = λ s j. copy_schedule (phase c.args.world.now) (world_of c.args.world.now) (take c.loop-turn.turn-index c.args.turns.now) (world_of c.loop-turn.world) s j c.loop-turn.invariant.schedule

pub returns-clause-reached : goal.returns-clause-reached
returns-clause-reached c = λ before.
    let p = c.args.world.now in
    let all = c.loop-turn.invariant in
    subst (λ (g : Phase). Reached g (world_of c.loop-turn.world)) (sym all.phase) (reached_on (phase p) (world_of p) (world_of c.loop-turn.world) (take c.loop-turn.turn-index c.args.turns.now) before all.schedule)

pub returns-clause-unheld : goal.returns-clause-unheld
returns-clause-unheld c =
    let p = c.args.world.now in
    unheld_schedule (phase p) (world_of p) (take c.loop-turn.turn-index c.args.turns.now) (world_of c.loop-turn.world) c.loop-turn.invariant.schedule
