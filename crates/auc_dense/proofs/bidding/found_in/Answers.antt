use Rattle.std.proofs.Common.{◌≡◌, ◌≢◌, ◌+◌, pos, get_or, sym, subst, ap, rules, w64, to_z, of_z}
use Rattle.std.specs.Prelude.{FitsSigned}
use Rattle.std.proofs.lemmas.Int.{to_z-of_z}
use Rattle.auc_dense.specs.Bidding.{IsFound}
use Rattle.auc_dense.proofs.FoundLaws.{found_gap, found_more}
use Rattle.auc_dense.proofs.bidding.found_in.Goals as goal
use Rattle.auc_dense.proofs.bidding.found_in.Goals.{then-cost-gap, else-cost-gap}

pub loop-object-preserved : goal.loop-object-preserved
loop-object-preserved c =
    let gap_fits : FitsSigned w64 c.args.gap = c.ranges.gap in
    let cost_fits : FitsSigned w64 (get_or c.args.row.now c.loop-object.object (pos 0)) = search rules in
    let price_fits : FitsSigned w64 (get_or c.args.prices.now c.loop-object.object (pos 0)) = search rules in
    let was = simp to_z-of_z at c.loop-object.invariant in
    elim c.if-cost-gap.branch [
      | then-cost-gap w ↦
          let own : get_or c.args.row.now c.loop-object.object (pos 0) ≢ c.args.gap = λ e. w.if-cost-gap.true (ap (of_z w64) e) in
          let worth_fits : FitsSigned w64 w.worth_of.result = search rules in
          let is = simp to_z-of_z at w.worth_of.ensures.is in
          let lowered = simp to_z-of_z at w.lowered-found.ensures in
          simp to_z-of_z (subst (IsFound c.args.gap c.args.row.now c.args.prices.now (c.loop-object.object + 1)) (sym w.found-is)
          (found_more c.args.gap c.args.row.now c.args.prices.now c.loop-object.object c.loop-object.found was w.worth_of.result own w.worth_of.ensures.range is w.lowered-found.result lowered))
      | else-cost-gap w ↦
          let same : to_z w64 (of_z w64 (get_or c.args.row.now c.loop-object.object (pos 0))) ≡ to_z w64 (of_z w64 c.args.gap) = ap (to_z w64) w.if-cost-gap.false in
          let gone = simp to_z-of_z at same in
          simp to_z-of_z (subst (IsFound c.args.gap c.args.row.now c.args.prices.now (c.loop-object.object + 1)) (sym w.found-is)
          (found_gap c.args.gap c.args.row.now c.args.prices.now c.loop-object.object c.loop-object.found was gone))
    ]
