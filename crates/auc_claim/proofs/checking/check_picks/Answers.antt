use Rattle.std.proofs.Common.{refl, sym, ◌∙◌}
use Rattle.auc_claim.proofs.ClaimLaws.{objects_below}
use Rattle.auc_claim.proofs.checking.check_picks.Goals as goal

pub repeated_object-requires : goal.repeated_object-requires
repeated_object-requires c = objects_below c.args.problem.now c.objects.result c.args.choice.now c.objects.ensures.problem c.objects.ensures.objects (sym c.requires.missing ∙ c.in_default.is)

pub returns-clause-objects : goal.returns-clause-objects
returns-clause-objects c = λ _. objects_below c.args.problem.now c.args.problem.now.objects c.args.choice.now c.objects.ensures.problem refl (sym c.requires.missing ∙ c.in_default.is)
