use Rattle.std.proofs.Common.{w64, subst, sym, List, ◌+◌}
use Rattle.std.specs.Prelude.{FitsSigned, ℤ}
use Rattle.std.proofs.lemmas.Int.{to_z-of_z}
use Rattle.auc_claim.specs.declared.lists.Pick.{Pick}
use Rattle.auc_dense.specs.Tried.{ArePicks, IsPickIn}
use Rattle.auc_dense.proofs.TriedLaws.{each_more}
use Rattle.auc_dense.proofs.trying.picks_in.Goals as goal

pub loop-person-preserved : goal.loop-person-preserved
loop-person-preserved c =
    let gap_fits : FitsSigned w64 c.args.gap = c.ranges.gap in
    let was = simp to_z-of_z at c.loop-person.invariant in
    let entry = simp to_z-of_z at c.in-Some.ensures in
    let here = subst (λ (row : List ℤ). IsPickIn c.args.gap row c.in-Some.pick) c.row_of-row.ensures.row entry in
    simp to_z-of_z (subst (λ (picks : List Pick). ArePicks c.args.table.now.objects c.args.table.now.costs.now c.args.table.now.stride c.args.gap (c.loop-person.person + 1) picks) (sym c.in_ok-push-in-Some.ensures.items)
    (each_more (IsPickIn c.args.gap) c.args.table.now.objects c.args.table.now.costs.now c.args.table.now.stride c.loop-person.person c.loop-person.picks.items c.in-Some.pick was here))
