use Rattle.std.proofs.Common.{◌≡◌, List, refl, subst, ◌∙◌, arith, w64}
use Rattle.std.specs.Prelude.{FitsSigned}
use Rattle.std.proofs.lemmas.Int.{to_z-of_z}
use Rattle.auc_graph.specs.declared.arc.Arc.{Arc}
use Rattle.auc_graph.specs.Problem.{IsProblem}
use Rattle.auc_graph.specs.InMemory.{objects_or, problem_from}
use Rattle.auc_claim.specs.declared.cert.CertParts.{CertParts}
use Rattle.auc_claim.specs.Claim.{chosen}
use Rattle.auc_call.specs.Memory.{AreAt}
use Rattle.auc_call.specs.Checking.{AreClaimSizes}
use Rattle.auc_call.proofs.MadeLaws.{made_of}
use Rattle.auc_call.proofs.CheckLaws.{checks}
use Rattle.auc_call.proofs.checking.check_at.Goals as goal

pub returns : goal.returns
returns c =
    let e = made_of c.args.given.now.persons c.args.given.now.objects c.in_ok-problem.problem c.in_ok-list.list.items c.args.given.now.arcs.now c.in_ok-problem.ensures.exact c.in_ok-list.ensures.items in
    let wanted : c.objects_or-wanted.result ≡ objects_or c.args.given.now.objects c.args.given.now.persons = c.objects_or-wanted.ensures in
    let sizes : AreClaimSizes (problem_from c.args.given.now.persons c.args.given.now.objects c.args.given.now.arcs.now) c.args.choice.now c.args.prices.now = record {
      places_are = omega (arith, c.if-choice-given.false);
      prices_are = omega (arith, c.if-prices-wanted.false, wanted);
    } in
    let is : IsProblem (problem_from c.args.given.now.persons c.args.given.now.objects c.args.given.now.arcs.now) = subst (λ (arcs : List Arc). IsProblem (problem_from c.args.given.now.persons c.args.given.now.objects arcs)) c.in_ok-list.ensures.items (c.in_ok-problem.ensures.ok.0 refl) in
    let at : AreAt c.args.given.now.arcs.now c.args.choice.now (chosen 0 c.in-Ok.picks.items) = rw c.in-Ok.is at c.in_ok-picks.ensures.placed in
    let fits : FitsSigned w64 c.args.cost = c.ranges.cost in
    let parts : c.in-Ok-make_wide.cert ≡ CertParts.Optimal c.args.cost c.new.result c.new-2.result = simp to_z-of_z at c.in-Ok-make_wide.ensures.same in
    let in_range = simp to_z-of_z at (c.in-Ok-make_wide.ensures.ok.0 refl) in
    checks (problem_from c.args.given.now.persons c.args.given.now.objects c.args.given.now.arcs.now) c.in_ok-problem.problem c.args.choice.now c.args.prices.now c.new-2.result c.args.cost c.in-Ok.picks.items c.new.result c.in-Ok-make_wide.cert c.checked_of.result
    e is sizes at parts c.new.ensures (c.new-2.ensures ∙ c.in_ok-from_slice.ensures.items) in_range c.checked_of.ensures.told c.checked_of.ensures.allowed
