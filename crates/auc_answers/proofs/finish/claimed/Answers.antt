use Rattle.std.proofs.Common.{arith, subst, ap, rules, ◌∙◌, List, Option, w64}
use Rattle.std.specs.Int.{w128}
use Rattle.std.specs.Prelude.{FitsSigned}
use Rattle.std.proofs.lemmas.Grind.{common_steps}
use Rattle.std.proofs.lemmas.Int.{to_z-of_z}
use Rattle.auc_claim.specs.declared.lists.Pick.{Pick}
use Rattle.auc_claim.specs.Claim.{chosen}
use Rattle.auc_graph.specs.Assignment.{total_cost}
use Rattle.auc_letters.specs.declared.state.Held.{Held}
use Rattle.auc_answers.specs.Claims.{IsChoiceOf}
use Rattle.auc_answers.proofs.FoundLaws.{claim_is, unspelled_claim}
use Rattle.auc_answers.proofs.finish.claimed.Goals as goal

pub cost_of-requires : goal.cost_of-requires
cost_of-requires c = let most = c.picks_of_holders.ensures.problem.most in grind (arith, common_steps, most)

pub returns-in_default-try_from-clause-none : goal.returns-in_default-try_from-clause-none
returns-in_default-try_from-clause-none c =
    let choice = subst (λ (holders : List (Option Held)). IsChoiceOf c.args.problem.now holders (chosen 0 c.in-Some.picks.items)) c.as_slice.ensures.value (rw c.in-Some.is at c.in_ok-picks.ensures.some) in
    let cost = c.cost_of.ensures ∙ ap (λ (picks : List Pick). total_cost (chosen 0 picks)) c.as_slice-2.ensures.value in
    let wide : FitsSigned w128 c.cost_of.result = search rules in
    let past = simp to_z-of_z at c.in_default-try_from.ensures in
    unspelled_claim c.args.problem.now c.args.gathered.holders.items c.args.gathered.prices.items c.in-Some.picks.items choice c.cost_of.result cost past

pub returns-clause-some : goal.returns-clause-some
returns-clause-some c =
    let choice = subst (λ (holders : List (Option Held)). IsChoiceOf c.args.problem.now holders (chosen 0 c.in-Some.picks.items)) c.as_slice.ensures.value (rw c.in-Some.is at c.in_ok-picks.ensures.some) in
    let cost = c.cost_of.ensures ∙ ap (λ (picks : List Pick). total_cost (chosen 0 picks)) c.as_slice-2.ensures.value in
    let wide : FitsSigned w128 c.cost_of.result = search rules in
    let narrow : FitsSigned w64 c.in-Ok.cost = search rules in
    let is = simp to_z-of_z at c.in-Ok.ensures.1 in
    simp to_z-of_z (rw (c.with_places.ensures, c.new.ensures) (record { choice = chosen 0 c.in-Some.picks.items; held = choice; claim_is = claim_is c.in-Ok.cost c.in-Some.picks.items c.args.gathered.prices.items (is ∙ cost) }))
