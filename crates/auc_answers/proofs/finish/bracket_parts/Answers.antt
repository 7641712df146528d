use Rattle.std.proofs.Common.{ap, rules, subst, sym, ◌∙◌, List, w64}
use Rattle.std.specs.Int.{w128}
use Rattle.std.specs.Prelude.{FitsSigned}
use Rattle.std.proofs.lemmas.Int.{to_z-of_z}
use Rattle.auc_claim.specs.declared.lists.Pick.{Pick}
use Rattle.auc_claim.specs.Claim.{chosen}
use Rattle.auc_graph.specs.Assignment.{total_cost}
use Rattle.auc_graph.proofs.DualLaws.{each_has_arc}
use Rattle.auc_answers.proofs.BracketLaws.{bound_is, bracket_is, cost_fits, few_picks}
use Rattle.auc_answers.proofs.finish.bracket_parts.Goals as goal

pub dual_bound-requires-clause-arcs : goal.dual_bound-requires-clause-arcs
dual_bound-requires-clause-arcs c = each_has_arc c.args.problem.now (chosen 0 c.args.picks.items) c.requires.assignment

pub returns-in_default-clause-none : goal.returns-in_default-clause-none
returns-in_default-clause-none c = λ fits.
    let wide : FitsSigned w128 c.in_ok-bound.bound = search rules in
    let lower_wide : FitsSigned w128 c.lower_of.result = search rules in
    let bound = bound_is c.args.problem.now c.persons-scale.result c.as_slice.result.now c.args.prices.items c.in_ok-bound.bound c.lower_of.result c.persons-scale.ensures.persons c.in_ok-bound.ensures.bound c.as_slice.ensures.value (simp to_z-of_z at c.lower_of.ensures) in
    let past = simp to_z-of_z at c.in_default.ensures in
    past (fits c.lower_of.result bound)

pub cost_of-requires : goal.cost_of-requires
cost_of-requires c = few_picks c.args.problem.now c.args.picks.items c.as_slice-2.result.now c.persons-scale.ensures.problem c.requires.assignment c.as_slice-2.ensures.value

pub unreachable-requires : goal.unreachable-requires
unreachable-requires c =
    let wide : FitsSigned w128 c.cost_of.result = search rules in
    let cost = c.cost_of.ensures ∙ ap (λ (picks : List Pick). total_cost (chosen 0 picks)) c.as_slice-2.ensures.value in
    let past = simp to_z-of_z at c.in_default-try_from.ensures in
    past (subst (FitsSigned w64) (sym cost) (cost_fits c.args.problem.now c.args.reason c.args.prices.items c.persons-scale.ensures.problem c.requires.each c.requires.within (chosen 0 c.args.picks.items) c.requires.assignment))

pub returns-clause-some : goal.returns-clause-some
returns-clause-some c =
    let wide : FitsSigned w128 c.in_ok-bound.bound = search rules in
    let lower_wide : FitsSigned w128 c.lower_of.result = search rules in
    let cost_wide : FitsSigned w128 c.cost_of.result = search rules in
    let lower_narrow : FitsSigned w64 c.in-Ok.lower = search rules in
    let cost_narrow : FitsSigned w64 c.in-Ok-try_from.cost = search rules in
    let bound = bound_is c.args.problem.now c.persons-scale.result c.as_slice.result.now c.args.prices.items c.in_ok-bound.bound c.lower_of.result c.persons-scale.ensures.persons c.in_ok-bound.ensures.bound c.as_slice.ensures.value (simp to_z-of_z at c.lower_of.ensures) in
    let lower = simp to_z-of_z at c.in-Ok.ensures.1 in
    let cost = (simp to_z-of_z at c.in-Ok-try_from.ensures.1) ∙ (c.cost_of.ensures ∙ ap (λ (picks : List Pick). total_cost (chosen 0 picks)) c.as_slice-2.ensures.value) in
    simp to_z-of_z
    (rw (c.with_places.ensures, c.new.ensures, lower) (bracket_is c.args.problem.now c.args.reason c.args.prices.items c.lower_of.result c.in-Ok-try_from.cost c.args.picks.items c.requires.assignment bound cost))
