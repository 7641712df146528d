use Rattle.std.proofs.Common.{length, sym, subst, ◌∙◌, rules, w32}
use Rattle.std.specs.Prelude.{ℤ, FitsSigned}
use Rattle.std.proofs.lemmas.Int.{to_z-of_z}
use Rattle.auc_call.specs.declared.found.Found.{Found}
use Rattle.auc_dense.specs.Given.{tabled_problem}
use Rattle.auc_call.specs.Memory.{memory}
use Rattle.auc_call.specs.Start.{start_fault}
use Rattle.auc_call.specs.Telling.{solve_status}
use Rattle.auc_dense.specs.Told.{IsTableTold}
use Rattle.auc_call.proofs.LimitedLaws.{told_asked}
use Rattle.auc_dense.proofs.ToldTables.{table_limit, table_told}
use Rattle.auc_dense.proofs.table_call.solve_table_call.Goals as goal

pub returns-clause-told : goal.returns-clause-told
returns-clause-told g c =
    let fits : FitsSigned w32 c.tell_solved.result = search rules in
    let p = tabled_problem c.args.given.now in
    let unfit = start_fault p c.args.run.now.start.now in
    let before = memory c.args.choice.now c.args.prices.now c.args.hall_objects.now in
    let after = memory c.solve_table_into-solved.new.choice c.solve_table_into-solved.new.prices c.solve_table_into-solved.new.set in
    let solved = c.solve_table_into-solved.result in
    let entries = length c.args.given.now.costs.now in
    let right = table_told p c.args.given.now.stride entries c.args.run.now.start.now c.args.run.now.bids (g.W.Watch.has_stopped c.solve_table_into-solved.new.run.watch) before after solved c.args.found.now c.solve_table_into-solved.ensures.solves in
    simp to_z-of_z (subst (λ (z : ℤ). IsTableTold p c.args.given.now.stride entries unfit z before after c.args.found.now c.tell_solved.new.found) (sym c.tell_solved.ensures.status)
    (subst (λ (f : Found). IsTableTold p c.args.given.now.stride entries unfit (solve_status solved) before after c.args.found.now f) (sym c.tell_solved.ensures.found) right))

pub returns-clause-limit : goal.returns-clause-limit
returns-clause-limit g c = λ told.
    let fits : FitsSigned w32 c.tell_solved.result = search rules in
    rw c.tell_solved.ensures.found (table_limit (tabled_problem c.args.given.now) c.args.given.now.stride (length c.args.given.now.costs.now) c.args.run.now.start.now c.args.run.now.bids (g.W.Watch.has_stopped c.solve_table_into-solved.new.run.watch) (memory c.args.choice.now c.args.prices.now c.args.hall_objects.now) (memory c.solve_table_into-solved.new.choice c.solve_table_into-solved.new.prices c.solve_table_into-solved.new.set) c.solve_table_into-solved.result c.args.found.now c.solve_table_into-solved.ensures.solves (sym c.tell_solved.ensures.status ∙ simp to_z-of_z at told))

pub returns-clause-asked : goal.returns-clause-asked
returns-clause-asked g c =
    let fits : FitsSigned w32 c.tell_solved.result = search rules in
    let asked = g.W.Watch.was_asked c.solve_table_into-solved.new.run.watch in
    simp to_z-of_z (told_asked asked c.solve_table_into-solved.result c.tell_solved.result c.solve_table_into-solved.ensures.asked c.tell_solved.ensures.status)
