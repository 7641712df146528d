use Rattle.std.proofs.Common.{rules, w32}
use Rattle.std.specs.Prelude.{FitsSigned}
use Rattle.std.proofs.lemmas.Int.{to_z-of_z}
use Rattle.auc_call.proofs.LimitedLaws.{never_stopped}
use Rattle.sigdorf_c.proofs.sigdorf_solve.Goals as goal

pub returns-clause-limit : goal.returns-clause-limit
returns-clause-limit c = λ four.
    let fits : FitsSigned w32 c.solve_call.result = search rules in
    never_stopped (c.solve_call.ensures.limit (simp to_z-of_z at four))
