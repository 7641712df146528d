use Rattle.std.proofs.Common.{sym, subst, ap, ◌∙◌, ◌<◌, List, length, All, map}
use Rattle.auc_graph.specs.declared.arc.Arc.{Arc}
use Rattle.auc_answers.specs.Claims.{pick_at}
use Rattle.auc_answers.proofs.MatchingPicks.{as_many, full_found, full_within}
use Rattle.auc_answers.proofs.picks.picks_of_matching.Goals as goal

pub picks_by-requires : goal.picks_by-requires
picks_by-requires c = subst (λ (arcs : List Arc). All (λ n. n < length arcs) c.args.numbers.now) (sym c.arcs.ensures.arcs) (full_within c.args.problem.now c.args.numbers.now c.requires)

pub returns-clause-assignment : goal.returns-clause-assignment
returns-clause-assignment c = full_found c.args.problem.now c.args.numbers.now c.in_ok-picks.picks.items c.requires (c.in_ok-picks.ensures ∙ ap (λ (arcs : List Arc). map (pick_at arcs) c.args.numbers.now) c.arcs.ensures.arcs)

pub returns-clause-each : goal.returns-clause-each
returns-clause-each c = as_many c.args.problem.now c.args.numbers.now c.in_ok-picks.picks.items c.requires (c.in_ok-picks.ensures ∙ ap (λ (arcs : List Arc). map (pick_at arcs) c.args.numbers.now) c.arcs.ensures.arcs)

pub returns-clause-numbered : goal.returns-clause-numbered
returns-clause-numbered c = c.in_ok-picks.ensures ∙ ap (λ (arcs : List Arc). map (pick_at arcs) c.args.numbers.now) c.arcs.ensures.arcs
