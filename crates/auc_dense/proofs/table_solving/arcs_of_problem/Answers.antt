use Rattle.std.proofs.Common.{sym, ◌∙◌, rules, w64}
use Rattle.std.specs.Prelude.{FitsSigned}
use Rattle.std.proofs.lemmas.Int.{to_z-of_z}
use Rattle.auc_graph.specs.InMemory.{objects_or}
use Rattle.auc_dense.specs.Table.{table_arcs, table_problem}
use Rattle.auc_dense.proofs.FaultLaws.{counted_problem, first_refused, handed}
use Rattle.auc_dense.proofs.table_solving.arcs_of_problem.Goals as goal

pub returns-in_err-count-clause-refused : goal.returns-in_err-count-clause-refused
returns-in_err-count-clause-refused c =
    let gap_fits : FitsSigned w64 c.args.given.now.gap = search rules in
    let none = sym c.list_fault.ensures.exact ∙ c.in_default.is in
    let first = simp (to_z-of_z, c.objects_or-wanted.ensures) at c.in_err-count.ensures.fault in
    handed (table_problem c.args.given.now.persons c.args.given.now.objects c.args.given.now.costs.now c.args.given.now.stride c.args.given.now.gap) c.in_err-count.field-0.0 c.from_residual.result c.from_residual.ensures.1
    (first_refused c.args.given.now.persons c.args.given.now.objects (table_arcs (objects_or c.args.given.now.objects c.args.given.now.persons) c.args.given.now.costs.now c.args.given.now.stride c.args.given.now.gap c.args.given.now.persons) c.in_err-count.field-0.0 none first)

pub returns-clause-problem : goal.returns-clause-problem
returns-clause-problem c =
    let gap_fits : FitsSigned w64 c.args.given.now.gap = search rules in
    let counts = c.list_fault.ensures.none.0 c.in_default.is in
    let none = simp (to_z-of_z, c.objects_or-wanted.ensures) at c.in_ok-count.ensures.faultless in
    counted_problem c.args.given.now.persons c.args.given.now.objects (table_arcs (objects_or c.args.given.now.objects c.args.given.now.persons) c.args.given.now.costs.now c.args.given.now.stride c.args.given.now.gap c.args.given.now.persons) counts none
