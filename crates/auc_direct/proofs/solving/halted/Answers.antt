use Rattle.auc_direct.proofs.HallLaws.{hall_set_of_rows}
use Rattle.auc_direct.proofs.solving.halted.Goals as goal

pub infeasible-requires : goal.infeasible-requires
infeasible-requires c =
    let flat = c.requires.halt.0 in
    let set = hall_set_of_rows c.args.problem.now flat c.in-Closed.hall.persons.items c.in-Closed.hall.objects.items c.requires.halt.1.0 (rw c.in-Closed.is at c.requires.halt.1.1) in
    rw (c.new.ensures, c.new-in-Closed.ensures) set
