use Rattle.std.proofs.Common.{rules, w32}
use Rattle.std.specs.Prelude.{FitsSigned}
use Rattle.std.proofs.lemmas.Int.{to_z-of_z}
use Rattle.sigdorf_c.proofs.sigdorf_solve_by_messages.Goals as goal

pub returns-clause-run : goal.returns-clause-run
returns-clause-run c =
    let fits : FitsSigned w32 c.solve_by_messages_call.result = search rules in
    simp to_z-of_z c.solve_by_messages_call.ensures.run
