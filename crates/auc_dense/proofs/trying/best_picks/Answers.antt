use Rattle.std.proofs.Common.{w64, subst, sym, List, ◌+◌}
use Rattle.std.specs.Prelude.{FitsSigned, ℤ}
use Rattle.std.proofs.lemmas.Int.{to_z-of_z}
use Rattle.auc_claim.specs.declared.lists.Pick.{Pick}
use Rattle.auc_dense.specs.Tried.{AreBest, IsBestIn}
use Rattle.auc_dense.proofs.TriedLaws.{each_more}
use Rattle.auc_dense.proofs.trying.best_picks.Goals as goal

pub loop-person-preserved : goal.loop-person-preserved
loop-person-preserved c =
    let gap_fits : FitsSigned w64 c.args.gap = c.ranges.gap in
    let was = simp to_z-of_z at c.loop-person.invariant in
    let best = simp to_z-of_z at c.in-Some.ensures in
    let here = subst (λ (row : List ℤ). IsBestIn c.args.gap row c.args.prices.now c.in-Some.pick) c.row_of-row.ensures.row best in
    simp to_z-of_z (subst (λ (picks : List Pick). AreBest c.args.table.now.objects c.args.table.now.costs.now c.args.table.now.stride c.args.gap c.args.prices.now (c.loop-person.person + 1) picks) (sym c.in_ok-push-in-Some.ensures.items)
    (each_more (λ (row : List ℤ) (pick : Pick). IsBestIn c.args.gap row c.args.prices.now pick) c.args.table.now.objects c.args.table.now.costs.now c.args.table.now.stride c.loop-person.person c.loop-person.picks.items c.in-Some.pick was here))
