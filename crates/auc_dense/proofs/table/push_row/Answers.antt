use Rattle.std.proofs.Common.{◌≡◌, ◌≢◌, pos, get_or, ap, ◌∙◌, rules, w64, Vec, Global, to_z, of_z}
use Rattle.std.specs.Prelude.{FitsSigned}
use Rattle.std.proofs.lemmas.Int.{to_z-of_z}
use Rattle.auc_graph.specs.declared.arc.Arc.{Arc}
use Rattle.auc_dense.proofs.TableLaws.{gap_step, own_step}
use Rattle.auc_dense.proofs.table.push_row.Goals as goal
use Rattle.auc_dense.proofs.table.push_row.Goals.{then-cost-gap+in_ok-push, else-cost-gap}

pub loop-object-preserved : goal.loop-object-preserved
loop-object-preserved c =
    let gap_fits : FitsSigned w64 c.args.gap = c.ranges.gap in
    let cost_fits : FitsSigned w64 (get_or c.args.row.now c.loop-object.object (pos 0)) = search rules in
    let was = simp to_z-of_z at c.loop-object.invariant in
    elim c.if-cost-gap.branch [
      | then-cost-gap+in_ok-push w ↦
          let own : get_or c.args.row.now c.loop-object.object (pos 0) ≢ c.args.gap = λ e. w.if-cost-gap.true (ap (of_z w64) e) in
          simp to_z-of_z (own_step c.args.gap c.args.person c.args.row.now c.loop-object.object c.args.arcs.now.items c.loop-object.arcs.items c.if-cost-gap.arcs.items w.arc_of.result c.loop-object-test.true own was w.arc_of.ensures.person w.arc_of.ensures.object (simp to_z-of_z at w.arc_of.ensures.cost)
          (ap (λ (v : Vec Arc Global). v.items) w.arcs-is ∙ w.in_ok-push.ensures.items))
      | else-cost-gap w ↦
          let same : to_z w64 (of_z w64 (get_or c.args.row.now c.loop-object.object (pos 0))) ≡ to_z w64 (of_z w64 c.args.gap) = ap (to_z w64) w.if-cost-gap.false in
          let gone = simp to_z-of_z at same in
          simp to_z-of_z (ap (λ (v : Vec Arc Global). v.items) w.arcs-is ∙ gap_step c.args.gap c.args.person c.args.row.now c.loop-object.object c.args.arcs.now.items c.loop-object.arcs.items c.loop-object-test.true gone was)
    ]
