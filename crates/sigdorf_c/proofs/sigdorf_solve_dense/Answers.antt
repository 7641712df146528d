use Rattle.std.proofs.Common.{rules, w32, w64}
use Rattle.std.specs.Prelude.{FitsSigned}
use Rattle.std.proofs.lemmas.Int.{to_z-of_z}
use Rattle.auc_call.proofs.LimitedLaws.{never_stopped}
use Rattle.sigdorf_c.proofs.sigdorf_solve_dense.Goals as goal

pub returns-clause-told : goal.returns-clause-told
returns-clause-told c =
    let fits : FitsSigned w32 c.solve_table_call.result = search rules in
    let none_fits : FitsSigned w64 c.args.none = c.ranges.none in
    simp to_z-of_z (simp to_z-of_z at c.solve_table_call.ensures.told)

pub returns-clause-limit : goal.returns-clause-limit
returns-clause-limit c = λ four.
    let fits : FitsSigned w32 c.solve_table_call.result = search rules in
    let none_fits : FitsSigned w64 c.args.none = c.ranges.none in
    let limit = simp to_z-of_z at c.solve_table_call.ensures.limit in
    never_stopped (limit (simp to_z-of_z at four))
