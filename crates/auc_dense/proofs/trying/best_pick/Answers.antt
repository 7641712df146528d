use Rattle.std.proofs.Common.{rules, w64}
use Rattle.std.specs.Prelude.{FitsSigned}
use Rattle.std.proofs.lemmas.Int.{to_z-of_z}
use Rattle.auc_dense.proofs.trying.best_pick.Goals as goal

pub returns : goal.returns
returns c =
    let gap_fits : FitsSigned w64 c.args.gap = c.ranges.gap in
    let cost_fits : FitsSigned w64 c.in-Some.pick.cost = search rules in
    let entry = simp to_z-of_z at (rw c.in-Some.is at c.pick_in.ensures) in
    search rules
