use Rattle.std.proofs.Common.{arith}
use Rattle.std.proofs.lemmas.Grind.{common_steps}
use Rattle.auc_machine.proofs.ListLaws.{kept_set}
use Rattle.auc_machine.proofs.Keeping.{hearing_keeps}
use Rattle.auc_machine.proofs.world.World.hear.Goals as goal

pub invariant_of-self : goal.invariant_of-self
invariant_of-self c = (
  hearing_keeps _ c.self.invariant.0 c.args.shard _ _ _ _ (grind (arith, common_steps)) (grind (arith, common_steps)) c.on_letter.ensures.exact c.on_letter.ensures.shape,
  kept_set c.self.inside.rows.now c.self.inside.persons.items c.self.inside.bidders.items c.args.shard c.index_mut-persons.result.now c.on_letter.new.self (grind (arith, common_steps)) (grind (arith, common_steps)) c.on_letter.ensures.rise c.self.invariant.1,
)
