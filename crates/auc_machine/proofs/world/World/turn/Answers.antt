use Rattle.auc_model.proofs.Reached.{reached_turn}
use Rattle.auc_model.proofs.Unheld.{unheld_turn}
use Rattle.auc_model.specs.Schedule.{Reached}
use Rattle.auc_model.specs.World.{Phase}
use Rattle.std.proofs.Common.{subst, sym}
use Rattle.auc_machine.specs.Parts.{phase, world_of}
use Rattle.auc_machine.proofs.TurnByTurn.{same_phase}
use Rattle.auc_machine.proofs.world.World.turn.Goals as goal

pub returns-clause-reached : goal.returns-clause-reached
returns-clause-reached c = λ before.
    let p = c.args.self.now in
    let n = c.take_turn.new.self in
    subst (λ (g : Phase). Reached g (world_of n)) (sym (same_phase p n c.take_turn.ensures.phase)) (reached_turn (phase p) (world_of p) (world_of n) c.args.turn c.take_turn.result before c.take_turn.ensures.turn)

pub returns-clause-unheld : goal.returns-clause-unheld
returns-clause-unheld c =
    let p = c.args.self.now in
    unheld_turn (phase p) (world_of p) c.args.turn c.take_turn.result (world_of c.take_turn.new.self) c.take_turn.ensures.turn
