use Rattle.std.proofs.Common.{rules, w32, w64}
use Rattle.std.specs.Prelude.{FitsSigned}
use Rattle.std.proofs.lemmas.Int.{to_z-of_z}
use Rattle.sigdorf_c.specs.Watch.{has_stopped}
use Rattle.sigdorf_c.proofs.WatchLaws.{asked_told, is_flag, stop_told}
use Rattle.sigdorf_c.proofs.sigdorf_solve_dense_by_watch.Goals as goal

pub returns-clause-told : goal.returns-clause-told
returns-clause-told c =
    let fits : FitsSigned w32 c.solve_table_call-status.result = search rules in
    let none_fits : FitsSigned w64 c.args.none = c.ranges.none in
    simp to_z-of_z (simp to_z-of_z at c.solve_table_call-status.ensures.told)

pub returns-clause-limit : goal.returns-clause-limit
returns-clause-limit c = λ four.
    let fits : FitsSigned w32 c.solve_table_call-status.result = search rules in
    let none_fits : FitsSigned w64 c.args.none = c.ranges.none in
    let limit = simp to_z-of_z at c.solve_table_call-status.ensures.limit in
    stop_told (has_stopped c.solve_table_call-status.new.run.watch) c.end.new.self.stopped c.end.ensures.stopped (limit (simp to_z-of_z at four))

pub returns-clause-stopped : goal.returns-clause-stopped
returns-clause-stopped c = is_flag (has_stopped c.solve_table_call-status.new.run.watch) c.end.new.self.stopped c.end.ensures.stopped

pub returns-clause-asked : goal.returns-clause-asked
returns-clause-asked c = λ found.
    let fits : FitsSigned w32 c.solve_table_call-status.result = search rules in
    asked_told c.solve_table_call-status.new.run.watch.asked c.end.new.self.asked c.end.ensures.asked (c.solve_table_call-status.ensures.asked (simp to_z-of_z at found))
