use Rattle.std.proofs.Common.{arith, rules, w64}
use Rattle.std.specs.Prelude.{FitsSigned}
use Rattle.std.proofs.lemmas.Grind.{common_steps}
use Rattle.std.proofs.lemmas.Int.{to_z-of_z}
use Rattle.auc_objects.specs.Answers.{letters_of}
use Rattle.auc_machine.proofs.Keeping.{answer_keeps, answers_here, reach_by}
use Rattle.auc_machine.proofs.world.World.answer.Goals as goal

pub invariant_of-self : goal.invariant_of-self
invariant_of-self c = (
  answer_keeps _ c.self.invariant.0 c.args.shard c.index_mut-objects.result.now _ (grind (arith, common_steps)) (grind (arith, common_steps)) c.answer.ensures.shape,
  c.self.invariant.1,
)

pub returns-clause-letters : goal.returns-clause-letters
returns-clause-letters c =
    let fits : FitsSigned w64 c.self.inside.eps = search rules in
    let letters = simp to_z-of_z at c.answer.ensures.letters in
    rw (← c.self.view_is) (answers_here _ c.self.invariant.0 c.args.shard c.index_mut-objects.result.now (letters_of c.answer.result) c.self.inside.eps c.args.offer (grind (arith, common_steps)) (grind (arith, common_steps)) letters)

pub returns-clause-reach : goal.returns-clause-reach
returns-clause-reach c =
    let fits : FitsSigned w64 c.self.inside.eps = search rules in
    let letters = simp to_z-of_z at c.answer.ensures.letters in
    rw (← c.self.view_is) (reach_by _ c.self.invariant.0 (letters_of c.answer.result) c.self.inside.eps _ c.args.offer (answers_here _ c.self.invariant.0 c.args.shard c.index_mut-objects.result.now (letters_of c.answer.result) c.self.inside.eps c.args.offer (grind (arith, common_steps)) (grind (arith, common_steps)) letters))
