use Rattle.std.proofs.Common.{rules, ◌≡◌, ◌∷◌, [], None, w64}
use Rattle.std.specs.Prelude.{FitsSigned}
use Rattle.std.proofs.lemmas.Int.{to_z-of_z}
use Rattle.auc_claim.specs.declared.cert.CertParts.TheVariants.{Optimal}
use Rattle.auc_claim.specs.Claim.{choice_faults, slack_fault, left_over_fault, first_of, fault_of}
use Rattle.auc_claim.proofs.ClaimLaws.{faultless_is_allowed, verdict_behind, verdict_second, ok_is_none}
use Rattle.auc_claim.proofs.SlackLaws.{slack_passed}
use Rattle.auc_claim.proofs.checking.check_optimal.Goals as goal

pub check_slack-requires-clause-told : goal.check_slack-requires-clause-told
check_slack-requires-clause-told c = λ told.
    slack_passed c.args.problem.now c.args.choice.now c.args.prices.now c.arcs.result.now c.persons-scale.result c.arcs.ensures.arcs c.persons-scale.ensures.persons (c.in_ok-missing.ensures.slack told)

pub returns-clause-exact : goal.returns-clause-exact
returns-clause-exact c =
    let fits : FitsSigned w64 c.args.cost = c.ranges.cost in
    let choice : first_of (choice_faults c.args.problem.now c.args.cost c.args.choice.now c.args.prices.now) ≡ None = simp to_z-of_z at (c.in_ok-check_picks.ensures.exact c.args.prices.now (search rules)) in
    let slack : first_of (slack_fault c.args.problem.now c.args.choice.now c.args.prices.now ∷ []) ≡ None = c.in_ok-check_slack.ensures.exact in
    verdict_behind c.check_left_over.result (choice_faults c.args.problem.now c.args.cost c.args.choice.now c.args.prices.now) (slack_fault c.args.problem.now c.args.choice.now c.args.prices.now ∷ left_over_fault c.args.choice.now c.args.prices.now ∷ []) choice
    (verdict_second c.check_left_over.result (slack_fault c.args.problem.now c.args.choice.now c.args.prices.now) (left_over_fault c.args.choice.now c.args.prices.now) slack c.check_left_over.ensures)

pub returns-clause-allowed : goal.returns-clause-allowed
returns-clause-allowed c = λ ok.
    faultless_is_allowed c.args.problem.now (Optimal c.args.cost c.args.choice.now c.args.prices.now) c.arcs.ensures.problem (c.ranges.cost, c.requires)
    (ok_is_none c.check_left_over.result (fault_of c.args.problem.now (Optimal c.args.cost c.args.choice.now c.args.prices.now)) ok (returns-clause-exact c))
