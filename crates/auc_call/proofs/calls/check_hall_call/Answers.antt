use Rattle.std.proofs.Common.{sym, subst, rules, w32}
use Rattle.std.specs.Prelude.{ℤ, FitsSigned}
use Rattle.std.proofs.lemmas.Int.{to_z-of_z}
use Rattle.auc_graph.specs.InMemory.{problem_from}
use Rattle.auc_call.specs.declared.found.Found.{Found}
use Rattle.auc_call.specs.Telling.{check_status}
use Rattle.auc_call.specs.Told.{IsHallChecked}
use Rattle.auc_call.proofs.ToldChecks.{hall_told}
use Rattle.auc_call.proofs.calls.check_hall_call.Goals as goal

pub returns : goal.returns
returns c =
    let fits : FitsSigned w32 c.tell_checked.result = search rules in
    let p = problem_from c.args.given.now.persons c.args.given.now.objects c.args.given.now.arcs.now in
    let all = hall_told p c.args.hall_persons.now c.args.hall_objects.now c.check_hall_at-checked.result c.args.found.now c.check_hall_at-checked.ensures in
    record {
      told = simp to_z-of_z (subst (λ (z : ℤ). IsHallChecked p c.args.hall_persons.now c.args.hall_objects.now z c.args.found.now c.tell_checked.new.found) (sym c.tell_checked.ensures.status)
          (subst (λ (f : Found). IsHallChecked p c.args.hall_persons.now c.args.hall_objects.now (check_status c.check_hall_at-checked.result) c.args.found.now f) (sym c.tell_checked.ensures.found) all));
    }
