use Rattle.std.proofs.Common.{rules, get_or, pos, w64, sym, ◌∙◌}
use Rattle.std.specs.Prelude.{FitsSigned}
use Rattle.std.proofs.lemmas.Int.{to_z-of_z}
use Rattle.auc_dense.proofs.TriedLaws.{none_more}
use Rattle.auc_dense.proofs.trying.is_none_below.Goals as goal
use Rattle.auc_dense.proofs.trying.is_none_below.Goals.{then-is_none, else-is_none}

pub loop-object-preserved : goal.loop-object-preserved
loop-object-preserved c =
    let gap_fits : FitsSigned w64 c.args.gap = c.ranges.gap in
    let least_fits : FitsSigned w64 c.args.least = c.ranges.least in
    let cost_fits : FitsSigned w64 (get_or c.args.row.now c.loop-object.object (pos 0)) = search rules in
    let price_fits : FitsSigned w64 (get_or c.args.prices.now c.loop-object.object (pos 0)) = search rules in
    let was = simp to_z-of_z at c.loop-object.invariant in
    let here = simp to_z-of_z at c.is_no_better-is_no_better.ensures in
    elim c.if-is_none.branch [
      | then-is_none w ↦ λ t. simp to_z-of_z (none_more c.args.gap c.args.row.now c.args.prices.now c.args.least c.loop-object.object (was w.if-is_none.true) (here (sym w.is_none-is ∙ t)))
      | else-is_none w ↦ λ t. (let f = sym t ∙ w.is_none-is ∙ w.if-is_none.false in absurd cc)
    ]
