use Rattle.std.proofs.Common.{List, refl, subst, ◌∙◌}
use Rattle.auc_graph.specs.declared.arc.Arc.{Arc}
use Rattle.auc_graph.specs.Problem.{IsProblem}
use Rattle.auc_graph.specs.InMemory.{problem_from}
use Rattle.auc_call.proofs.MadeLaws.{made_of}
use Rattle.auc_call.proofs.CheckLaws.{checks_hall}
use Rattle.auc_call.proofs.checking.check_hall_at.Goals as goal

pub returns : goal.returns
returns c =
    let e = made_of c.args.given.now.persons c.args.given.now.objects c.in_ok-problem.problem c.in_ok-list.list.items c.args.given.now.arcs.now c.in_ok-problem.ensures.exact c.in_ok-list.ensures.items in
    let is : IsProblem (problem_from c.args.given.now.persons c.args.given.now.objects c.args.given.now.arcs.now) = subst (λ (arcs : List Arc). IsProblem (problem_from c.args.given.now.persons c.args.given.now.objects arcs)) c.in_ok-list.ensures.items (c.in_ok-problem.ensures.ok.0 refl) in
    checks_hall (problem_from c.args.given.now.persons c.args.given.now.objects c.args.given.now.arcs.now) c.in_ok-problem.problem c.new.result c.args.hall_persons.now c.new-2.result c.args.hall_objects.now c.in-Ok.cert c.checked_of.result
    e is c.in-Ok.ensures.same (c.new.ensures ∙ c.in_ok-from_slice.ensures.items) (c.new-2.ensures ∙ c.in_ok-from_slice-2.ensures.items) c.checked_of.ensures.told c.checked_of.ensures.allowed
