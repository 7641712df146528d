use Rattle.std.proofs.Common.{sym, subst, rules, w32}
use Rattle.std.specs.Prelude.{ℤ, FitsSigned}
use Rattle.std.proofs.lemmas.Int.{to_z-of_z}
use Rattle.auc_call.specs.declared.driver.Driver.TheVariants.{Direct}
use Rattle.auc_call.specs.declared.found.Found.{Found}
use Rattle.auc_call.specs.Given.{listed_problem}
use Rattle.auc_call.specs.Memory.{memory}
use Rattle.auc_call.specs.Start.{start_fault_by}
use Rattle.auc_call.specs.Telling.{solve_status}
use Rattle.auc_call.specs.Told.{IsListTold}
use Rattle.auc_call.proofs.DriverLaws.{asked_of, told_by}
use Rattle.auc_call.proofs.LimitedLaws.{told_asked}
use Rattle.auc_call.proofs.ToldLaws.{told}
use Rattle.auc_call.proofs.calls.solve_call.Goals as goal

pub returns-clause-told : goal.returns-clause-told
returns-clause-told g c =
    let fits : FitsSigned w32 c.tell_solved.result = search rules in
    let p = listed_problem c.args.given.now in
    let unfit = start_fault_by Direct p c.args.run.now.start.now in
    let before = memory c.args.choice.now c.args.prices.now c.args.hall_objects.now in
    let after = memory c.solve_into-solved.new.choice c.solve_into-solved.new.prices c.solve_into-solved.new.set in
    let solved = c.solve_into-solved.result in
    let right = told Direct p c.args.run.now.start.now before after solved c.args.found.now c.solve_into-solved.ensures.solves in
    simp to_z-of_z (subst (λ (z : ℤ). IsListTold p unfit z before after c.args.found.now c.tell_solved.new.found) (sym c.tell_solved.ensures.status)
    (subst (λ (f : Found). IsListTold p unfit (solve_status solved) before after c.args.found.now f) (sym c.tell_solved.ensures.found) right))

pub returns-clause-limit : goal.returns-clause-limit
returns-clause-limit g c =
    let fits : FitsSigned w32 c.tell_solved.result = search rules in
    simp to_z-of_z (told_by Direct (listed_problem c.args.given.now) c.args.run.now.start.now c.args.run.now.bids (g.W.Watch.has_stopped c.solve_into-solved.new.run.watch) (g.W.Watch.was_asked c.solve_into-solved.new.run.watch) (memory c.solve_into-solved.new.choice c.solve_into-solved.new.prices c.solve_into-solved.new.set) c.solve_into-solved.result c.tell_solved.result c.args.found.now c.tell_solved.new.found c.solve_into-solved.ensures.run c.tell_solved.ensures.status c.tell_solved.ensures.found)

pub returns-clause-asked : goal.returns-clause-asked
returns-clause-asked g c =
    let fits : FitsSigned w32 c.tell_solved.result = search rules in
    let asked = g.W.Watch.was_asked c.solve_into-solved.new.run.watch in
    simp to_z-of_z (told_asked asked c.solve_into-solved.result c.tell_solved.result (asked_of (listed_problem c.args.given.now) c.args.run.now.start.now c.args.run.now.bids (g.W.Watch.has_stopped c.solve_into-solved.new.run.watch) asked (memory c.solve_into-solved.new.choice c.solve_into-solved.new.prices c.solve_into-solved.new.set) c.solve_into-solved.result c.solve_into-solved.ensures.run) c.tell_solved.ensures.status)
