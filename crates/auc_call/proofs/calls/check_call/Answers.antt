use Rattle.std.proofs.Common.{sym, subst, rules, w32, w64}
use Rattle.std.specs.Prelude.{ℤ, FitsSigned}
use Rattle.std.proofs.lemmas.Int.{to_z-of_z}
use Rattle.auc_graph.specs.InMemory.{problem_from}
use Rattle.auc_call.specs.declared.found.Found.{Found}
use Rattle.auc_call.specs.Telling.{check_status}
use Rattle.auc_call.specs.Told.{IsClaimChecked}
use Rattle.auc_call.proofs.ToldChecks.{claim_told}
use Rattle.auc_call.proofs.calls.check_call.Goals as goal

pub returns : goal.returns
returns c =
    let fits : FitsSigned w32 c.tell_checked.result = search rules in
    let cost : FitsSigned w64 c.args.cost = c.ranges.cost in
    let right = simp to_z-of_z at c.check_at-checked.ensures in
    let p = problem_from c.args.given.now.persons c.args.given.now.objects c.args.given.now.arcs.now in
    let all = claim_told p c.args.choice.now c.args.prices.now c.args.cost c.check_at-checked.result c.args.found.now right in
    record {
      told = simp to_z-of_z (subst (λ (z : ℤ). IsClaimChecked p c.args.choice.now c.args.prices.now c.args.cost z c.args.found.now c.tell_checked.new.found) (sym c.tell_checked.ensures.status)
          (subst (λ (f : Found). IsClaimChecked p c.args.choice.now c.args.prices.now c.args.cost (check_status c.check_at-checked.result) c.args.found.now f) (sym c.tell_checked.ensures.found) all));
    }
