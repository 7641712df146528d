use Rattle.std.proofs.Common.{rules, ◌≡◌, ◌∷◌, [], None, w64}
use Rattle.std.specs.Prelude.{FitsSigned}
use Rattle.std.proofs.lemmas.Int.{to_z-of_z}
use Rattle.auc_graph.specs.Memory.{AnswersUnless}
use Rattle.auc_graph.proofs.DualLaws.{each_has_arc}
use Rattle.auc_claim.specs.declared.refused.CertRefused.TheVariants.{NoMemory}
use Rattle.auc_claim.specs.declared.cert.CertParts.TheVariants.{Bracket}
use Rattle.auc_claim.specs.Claim.{chosen, choice_faults, bound_fault, first_of, fault_of, IsVerdict}
use Rattle.auc_claim.proofs.ClaimLaws.{is_faultless, is_assigned, faultless_is_allowed, verdict_behind, ok_is_none}
use Rattle.auc_claim.proofs.checking.check_bracket.Goals as goal

pub check_bound-requires-clause-arcs : goal.check_bound-requires-clause-arcs
check_bound-requires-clause-arcs c =
    let fits : FitsSigned w64 c.args.cost = c.ranges.cost in
    let none : first_of (choice_faults c.args.problem.now c.args.cost c.args.choice.now c.args.prices.now) ≡ None = simp to_z-of_z at (c.in_ok-check_picks.ensures.exact c.args.prices.now (search rules)) in
    each_has_arc c.args.problem.now (chosen 0 c.args.choice.now) (is_assigned c.args.problem.now c.args.cost c.args.choice.now c.args.prices.now (is_faultless c.args.problem.now c.args.cost c.args.choice.now c.args.prices.now none))

pub returns-clause-exact : goal.returns-clause-exact
returns-clause-exact c = λ reason.
    let fits : FitsSigned w64 c.args.cost = c.ranges.cost in
    let low : FitsSigned w64 c.args.lower = c.ranges.lower in
    let none : first_of (choice_faults c.args.problem.now c.args.cost c.args.choice.now c.args.prices.now) ≡ None = simp to_z-of_z at (c.in_ok-check_picks.ensures.exact c.args.prices.now (search rules)) in
    let bound : AnswersUnless NoMemory (λ x. x) c.check_bound.result (IsVerdict (first_of (bound_fault c.args.problem.now c.args.lower c.args.prices.now ∷ []))) = simp to_z-of_z at c.check_bound.ensures.exact in
    verdict_behind c.check_bound.result (choice_faults c.args.problem.now c.args.cost c.args.choice.now c.args.prices.now) (bound_fault c.args.problem.now c.args.lower c.args.prices.now ∷ []) none bound

pub returns-clause-allowed : goal.returns-clause-allowed
returns-clause-allowed c = λ reason ok.
    faultless_is_allowed c.args.problem.now (Bracket reason c.args.lower c.args.cost c.args.choice.now c.args.prices.now) c.check_bound.ensures.problem (record { lower_fits = c.ranges.lower; cost_fits = c.ranges.cost; choice = c.requires })
    (ok_is_none c.check_bound.result (fault_of c.args.problem.now (Bracket reason c.args.lower c.args.cost c.args.choice.now c.args.prices.now)) ok (returns-clause-exact c reason))
